use Rattle.std.proofs.Common.{◌≡◌, ◌+◌, ◌∷◌, List, ◌∙◌, ap, sym, arith, length}
use Rattle.cert_text.specs.declared.symbol.Symbol.{Symbol}
use Rattle.cert_text.specs.declared.symbol.Symbol.TheVariants as symbol
use Rattle.cert_text.specs.Pieces.{pieces}
use Rattle.cert_text.proofs.Runs.{after_against, last_first}
use Rattle.cert_text.proofs.position.Position.take_against.Goals as goal

pub returns-clause-taken : goal.returns-clause-taken
returns-clause-taken c =
    let last : c.in-Some.last + 1 ≡ length c.self.inside.runs.items = omega (arith, c.in-Some.ensures, c.len.ensures) in
    let now : List Symbol = pieces c.put_last.new.runs.items in
    let was : c.args.self.now ≡ symbol.Against ∷ now =
    sym c.self.view_is ∙ last_first c.self.inside.runs.items c.in-Some.last c.index-run.result.now c.less_first.result now last c.index-run.ensures c.less_first.ensures c.put_last.ensures
    ∙ ap (λ (s : Symbol). s ∷ now) c.in-Against.is in
    λ _ label e. after_against c.args.self.now now label e was
