use Rattle.std.proofs.Common.{◌≡◌, ◌+◌, ◌∷◌, ◌++◌, List, ◌∙◌, ap, sym, arith, length, refl, take}
use Rattle.cert_text.specs.declared.symbol.Symbol.{Symbol}
use Rattle.cert_text.specs.declared.symbol.Symbol.TheVariants as symbol
use Rattle.cert_text.specs.Pieces.{of_run, pieces}
use Rattle.cert_text.proofs.Runs.{after_fail, last_first}
use Rattle.cert_text.proofs.position.Position.take_fail.Goals as goal

pub returns-clause-taken : goal.returns-clause-taken
returns-clause-taken c =
    let last : c.in-Some.last + 1 ≡ length c.self.inside.runs.items = omega (arith, c.in-Some.ensures, c.len.ensures) in
    let rest : List Symbol = of_run c.less_first.result ++ pieces (take c.in-Some.last c.self.inside.runs.items) in
    let was : c.args.self.now ≡ symbol.TreeAt c.in-TreeAt.field-0 c.in-TreeAt.field-1 ∷ rest =
    sym c.self.view_is ∙ last_first c.self.inside.runs.items c.in-Some.last c.index-run.result.now c.less_first.result rest last c.index-run.ensures c.less_first.ensures refl
    ∙ ap (λ (s : Symbol). s ∷ rest) c.in-TreeAt.is in
    λ put. after_fail c.args.self.now rest (pieces c.put_subtrees.new.runs.items) _ _ c.args.count was (c.put_subtrees.ensures.put put)
