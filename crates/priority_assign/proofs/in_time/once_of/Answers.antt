use Rattle.std.proofs.Common.{ℕ, ◌-◌, ◌≤◌, List, take, get_or, All, arith}
use Rattle.std.proofs.lemmas.List.Elements.{All-more, All-weaker}
use Rattle.std.proofs.lemmas.List.Sums.{sum_by_more}
use Rattle.busy_period.specs.Timed.{IsInRange, frame_at}
use Rattle.busy_period.proofs.Stages.{named_is_in_range}
use Rattle.priority_assign.proofs.in_time.once_of.Goals as goal

-- one more frame
pub loop-number-preserved : goal.loop-number-preserved
loop-number-preserved c =
    let frames = c.args.frames.now in
    let numbers : List ℕ = c.args.numbers.now in
    let index : ℕ = c.loop-number.number-index in
    let P : ℕ → ℕ → Type 0 = λ window number. window ≤ (frame_at frames number).period - (frame_at frames number).jitter in
    let range : IsInRange (frame_at frames (get_or numbers index 0)) =
    named_is_in_range frames numbers index c.requires c.loop-number-test.true in
    let earlier : All (P c.min-window.result) (take index numbers) =
    All-weaker (P c.loop-number.window) (P c.min-window.result) (λ number le. omega (arith, le, c.min-window.ensures)) (take index numbers)
    c.loop-number.invariant.window in
    record {
      ticks = omega (
        arith,
        c.loop-number.invariant.ticks,
        sum_by_more (λ number. (frame_at frames number).ticks) numbers index 0 c.loop-number-test.true,
      );
      window = All-more (P c.min-window.result) numbers index 0 c.loop-number-test.true earlier
          (omega (arith, c.min-window.ensures, c.saturating_sub.ensures));
      bound = omega (arith, range.ticks, c.loop-number.invariant.bound);
    }
