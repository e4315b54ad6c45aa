use Rattle.std.proofs.Common.{◌≡◌, ◌+◌, ◌++◌, ◌∷◌, [], take, get_or, refl, ap, max, arith}
use Rattle.std.proofs.lemmas.List.{take_more}
use Rattle.std.proofs.lemmas.List.Recursion.{max_push}
use Rattle.std.proofs.Math.Nat.{max_comm}
use Rattle.busy_period.specs.Timed.{IsInRange, frame_at}
use Rattle.busy_period.proofs.Stages.{named_is_in_range}
use Rattle.busy_period.specs.Demand.{blocking_of}
use Rattle.busy_period.proofs.level.greatest_ticks.Goals as goal

-- one more number is one more step of the greatest
pub loop-number-preserved : goal.loop-number-preserved
loop-number-preserved c =
    let frames = c.args.frames.now in
    let numbers = c.args.numbers.now in
    let index = c.loop-number.number-index in
    let more : take (index + 1) numbers ≡ take index numbers ++ get_or numbers index 0 ∷ [] =
    take_more numbers index 0 c.loop-number-test.true in
    let step : blocking_of frames (take index numbers ++ get_or numbers index 0 ∷ [])
    ≡ max (blocking_of frames (take index numbers)) (frame_at frames (get_or numbers index 0)).ticks =
    max_push (blocking_of frames) (λ i. (frame_at frames i).ticks) refl (λ _ _. refl) (take index numbers)
    (get_or numbers index 0) in
    let commuted =
    max_comm (blocking_of frames (take index numbers)) (frame_at frames (get_or numbers index 0)).ticks in
    let whole = ap (blocking_of frames) more in
    let before : c.loop-number.greatest ≡ blocking_of frames (take index numbers) =
    c.loop-number.invariant.value in
    let range : IsInRange (frame_at frames (get_or numbers index 0)) =
    named_is_in_range frames numbers index c.requires c.loop-number-test.true in
    record { value = cc; bound = omega (arith, range.ticks) }
