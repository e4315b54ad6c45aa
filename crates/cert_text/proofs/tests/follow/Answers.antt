use Rattle.std.proofs.Common.{◌≡◌, ◌∷◌, [], ◌++◌, false, sym, ◌∙◌}
use Rattle.cert_text.proofs.tests.follow.Goals as goal

-- what was given, and this event
pub loop-place-preserved : goal.loop-place-preserved
loop-place-preserved c =
    let before = c.loop-place.invariant (sym c.ended.ensures ∙ c.if-ended.false) in
    let fed = c.in-Ok-next.ensures.answer before.0 before.1 before.2 in
    λ goes_on. (before.0 ++ fed.more, before.1 ++ c.in-Ok-next.event ∷ [], fed.answer.given)
