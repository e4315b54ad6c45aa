use Rattle.std.proofs.Common.{◌∙◌, ◌++◌, ◌∷◌, [], ap, List}
use Rattle.cert_text.specs.Pieces.{of_run, pieces}
use Rattle.cert_text.specs.declared.symbol.Symbol.{Symbol}
use Rattle.cert_text.specs.declared.symbol.Symbol.TheVariants as symbol
use Rattle.cert_text.proofs.position.Position.new.Goals as goal

pub returns : goal.returns
unfolding pieces
returns c =
    c.in_ok-put-2.ensures ∙ ap (λ x. of_run c.once-2.result ++ x) (c.in_ok-put.ensures ∙ ap (λ x. of_run c.once.result ++ pieces x) c.new-runs.ensures.items)
    ∙ ap (λ (x : List Symbol). x ++ (of_run c.once.result ++ [])) c.once-2.ensures ∙ ap (λ (x : List Symbol). symbol.First ∷ (x ++ [])) c.once.ensures
