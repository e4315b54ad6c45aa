use Rattle.std.proofs.Common.{◌≡◌, ℕ, ◌+◌, ◌*◌, ◌/◌, ◌^◌, ◌≤◌, take, get_or, sym, ap, subst, ◌∙◌, arith}
use Rattle.std.proofs.lemmas.List.Sums.{sum_by_more}
use Rattle.std.proofs.Math.Nat.{mul-le-mul, mul-le-mul_right}
use Rattle.busy_period.specs.declared.timed.Timed.{Timed}
use Rattle.busy_period.specs.Timed.{IsInRange, frame_at}
use Rattle.busy_period.specs.Demand.{asks_of, work_of}
use Rattle.busy_period.proofs.Stages.{named_is_in_range}
use Rattle.busy_period.proofs.Lines.{share-le-asks, line-more}
use Rattle.busy_period.proofs.line.line_below.Goals as goal

-- one more frame adds its share
pub loop-number-preserved : goal.loop-number-preserved
loop-number-preserved c =
    let frames = c.args.frames.now in
    let numbers = c.args.numbers.now in
    let index : ℕ = c.loop-number.number-index in
    let frame : Timed = frame_at frames (get_or numbers index 0) in
    let range : IsInRange frame = named_is_in_range frames numbers index c.requires c.loop-number-test.true in
    let share : ℕ = frame.ticks * 68719476736 / frame.period in
    let some : 1 ≤ frame.period = range.some_period in
    let down : frame.period * share ≤ frame.ticks * 68719476736 = omega arith in
    let once : 1 * share ≤ frame.period * share = mul-le-mul_right share some in
    let most : share ≤ 2 ^ 63 = omega (arith, range.ticks) in
    let over_jitter : share * frame.jitter ≤ 2 ^ 63 * 100000000000 = mul-le-mul most range.jitter in
    let product : c.from-share.result * c.from.result ≡ share * frame.jitter =
    ap (λ n. n * c.from.result) c.from-share.ensures ∙ ap (λ n. share * n) c.from.ensures in
    record {
      below = λ time.
          let work : ℕ = work_of frames (take index numbers) time in
          let P : ℕ → Type 0 = λ n. n * (time + frame.jitter) ≤ 68719476736 * asks_of frame time in
          let Q : ℕ → Type 0 = λ n. c.from-share.result * (time + n) ≤ 68719476736 * asks_of frame time in
          let asked : c.from-share.result * (time + c.from.result) ≤ 68719476736 * asks_of frame time =
          subst Q (sym c.from.ensures)
          (subst P (sym c.from-share.ensures) (share-le-asks frame 68719476736 time some)) in
          let R : ℕ → Type 0 =
          λ n.
          c.loop-number.offset + c.from-share.result * c.from.result
          + (c.loop-number.slope + c.from-share.result) * time
          ≤ 68719476736 * n in
          subst R (sym (sum_by_more
          (λ i. asks_of (frame_at frames i) time) numbers index 0 c.loop-number-test.true))
          (line-more 68719476736 c.loop-number.offset c.loop-number.slope c.from-share.result c.from.result
          time work (asks_of frame time)
          (c.loop-number.invariant.below time) asked);
      offset = omega (arith, c.loop-number.invariant.offset);
      slope = omega (arith, c.loop-number.invariant.slope);
    }
