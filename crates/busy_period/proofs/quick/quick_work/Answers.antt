use Rattle.std.proofs.Common.{◌≡◌, ℕ, ◌+◌, ◌*◌, ◌^◌, ◌≤◌, take, get_or, ap, ◌∙◌, arith}
use Rattle.std.proofs.lemmas.List.Sums.{sum_by_more}
use Rattle.std.proofs.Math.Nat.{mul-le-mul, mul-le-mul_right}
use Rattle.busy_period.specs.declared.timed.Timed.{Timed}
use Rattle.busy_period.specs.Timed.{IsInRange, frame_at}
use Rattle.busy_period.specs.Demand.{asks_of, work_of}
use Rattle.busy_period.proofs.Stages.{named_is_in_range}
use Rattle.busy_period.proofs.quick.quick_work.Goals as goal

-- one more frame asks for no less than what is added
pub loop-index-preserved : goal.loop-index-preserved
loop-index-preserved c =
    let frames = c.args.frames.now in
    let numbers = c.args.numbers.now in
    let index : ℕ = c.loop-index.index in
    let frame : Timed = frame_at frames (get_or numbers index 0) in
    let range : IsInRange frame =
    named_is_in_range frames numbers index c.requires.named c.loop-index-test.true in
    let instances : ℕ = c.quick_instances-instances.result in
    let product : c.from.result * c.from-in-loop-index.result ≡ instances * frame.ticks =
    ap (λ n. n * c.from-in-loop-index.result) c.from.ensures ∙ ap (λ n. instances * n) c.from-in-loop-index.ensures in
    let asked : instances * frame.ticks ≤ asks_of frame c.args.time =
    mul-le-mul_right frame.ticks c.quick_instances-instances.ensures.fewer in
    let most : instances * frame.ticks ≤ 2 ^ 47 * 100000000 =
    mul-le-mul c.quick_instances-instances.ensures.bound range.ticks in
    let more : work_of frames (take (index + 1) numbers) c.args.time
    ≡ work_of frames (take index numbers) c.args.time + asks_of frame c.args.time =
    sum_by_more (λ i. asks_of (frame_at frames i) c.args.time) numbers index 0 c.loop-index-test.true in
    record {
      less = omega (arith, c.loop-index.invariant.less);
      bound = omega (arith, c.loop-index.invariant.bound);
    }
