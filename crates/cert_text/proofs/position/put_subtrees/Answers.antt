use Rattle.std.proofs.Common.{◌≡◌, ◌+◌, ◌++◌, List, ap, ◌∙◌, arith, length, take}
use Rattle.cert_text.specs.declared.symbol.Symbol.{Symbol}
use Rattle.cert_text.specs.Pieces.{of_run, pieces}
use Rattle.cert_text.proofs.Runs.{pieces_none_last, pieces_set, pieces_two}
use Rattle.cert_text.proofs.position.put_subtrees.Goals as goal

pub returns-then-run-eq0-clause-put : goal.returns-then-run-eq0-clause-put
returns-then-run-eq0-clause-put c =
    let last : c.args.last + 1 ≡ length c.args.runs.now.items = omega (arith, c.requires) in
    λ _.
    pieces_set c.args.runs.now.items c.args.last c.args.subtrees last
    ∙ ap (λ (ps : List Symbol). of_run c.args.subtrees ++ ps) (pieces_none_last (pieces (take c.args.last c.args.runs.now.items)) c.args.run c.if-run-eq0.true)

pub returns-clause-put : goal.returns-clause-put
returns-clause-put c =
    let last : c.args.last + 1 ≡ length c.args.runs.now.items = omega (arith, c.requires) in
    λ _. rw c.in-Ok.ensures.items (pieces_two c.args.runs.now.items c.args.last c.args.subtrees c.args.run last)
