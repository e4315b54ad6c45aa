use Rattle.std.proofs.Common.{◌≡◌, ◌+◌, ◌∙◌, ap, sym, arith, length}
use Rattle.cert_text.specs.Pieces.{pieces}
use Rattle.cert_text.proofs.Runs.{last_first, last_nothing, pieces_empty}
use Rattle.cert_text.proofs.position.take_first.Goals as goal

pub returns-then-run-gt0-clause-some : goal.returns-then-run-gt0-clause-some
returns-then-run-gt0-clause-some c =
    let last : c.in-Some.last + 1 ≡ length c.loop-last.runs.items = omega (arith, c.in-Some.ensures, c.len.ensures) in
    c.loop-last.invariant ∙ last_first c.loop-last.runs.items c.in-Some.last c.index-run.result.now c.less_first.result (pieces c.put_last.new.runs.items) last c.index-run.ensures c.less_first.ensures c.put_last.ensures

pub loop-last-preserved : goal.loop-last-preserved
loop-last-preserved c =
    let last : c.in-Some.last + 1 ≡ length c.loop-last.runs.items = omega (arith, c.in-Some.ensures, c.len.ensures) in
    c.loop-last.invariant ∙ last_nothing c.loop-last.runs.items c.in-Some.last c.index-run.result.now last c.index-run.ensures c.if-run-gt0.false ∙ ap pieces (sym c.truncate.ensures.items)

pub returns-clause-none : goal.returns-clause-none
returns-clause-none c =
    let none : length c.loop-last.runs.items ≡ 0 = grind (arith, c.in_default.ensures, c.len.ensures) in
    λ e. c.loop-last.invariant ∙ pieces_empty c.loop-last.runs.items none
