use Rattle.std.proofs.Common.{◌≡◌, ℕ, ◌+◌, ◌*◌, ◌^◌, ◌≤◌, get_or, ap, arith}
use Rattle.std.proofs.Math.Nat.{mul-le-mul}
use Rattle.busy_period.specs.declared.timed.Timed.{Timed}
use Rattle.busy_period.specs.Timed.{IsInRange, frame_at}
use Rattle.busy_period.specs.Demand.{asks_of}
use Rattle.busy_period.proofs.Stages.{named_is_in_range}
use Rattle.busy_period.proofs.Lines.{asks-rise, rises_with_one}
use Rattle.busy_period.proofs.line.rise_after.Goals as goal

-- one more frame adds its share, and its share over its wait
pub loop-number-preserved : goal.loop-number-preserved
loop-number-preserved c =
    let frames = c.args.frames.now in
    let numbers = c.args.numbers.now in
    let index : ℕ = c.loop-number.number-index in
    let frame : Timed = frame_at frames (get_or numbers index 0) in
    let range : IsInRange frame =
    named_is_in_range frames numbers index c.requires.named c.loop-number-test.true in
    let share : ℕ = c.share_within-share.result in
    let wait : ℕ = c.wait_after-wait.result in
    let short : wait ≤ 100000000000 = omega (arith, range.period, c.wait_after-wait.ensures.bound) in
    let product : share * c.from.result ≡ share * wait = ap (λ n. share * n) c.from.ensures in
    let most : share * wait ≤ 2 ^ 63 * 100000000000 = mul-le-mul c.share_within-share.ensures.bound short in
    record {
      rises = λ more.
          let one : 68719476736 * asks_of frame c.args.time + share * more
          ≤ 68719476736 * asks_of frame (c.args.time + more) + share * wait =
          asks-rise frame 68719476736 c.args.time wait share more range.some_period
          c.wait_after-wait.ensures.until c.share_within-share.ensures.share in
          rises_with_one frames numbers c.args.time index more c.loop-number.slope c.loop-number.lag share
          c.from.result wait c.loop-number-test.true c.from.ensures (c.loop-number.invariant.rises more) one;
      slope = omega (arith, c.loop-number.invariant.slope, c.share_within-share.ensures.bound);
      lag = omega (arith, c.loop-number.invariant.lag);
    }
