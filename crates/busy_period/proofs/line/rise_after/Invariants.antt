use Rattle.std.proofs.Common.{ℕ, ◌+◌, ◌*◌, ◌^◌, ◌≤◌, take}
use Rattle.busy_period.specs.Demand.{work_of}
use Rattle.busy_period.proofs.line.rise_after.Given as goal

-- the rise is below that of the work of the frames so far
abbrev pub invariant-loop-number : goal.invariant-loop-number
invariant-loop-number l = record {
  rises : (more : ℕ) → 68719476736 * work_of l.frames (take l.number-index l.numbers) l.time + l.slope * more
      ≤ 68719476736 * work_of l.frames (take l.number-index l.numbers) (l.time + more) + l.lag;
  slope : l.slope ≤ l.number-index * 2 ^ 63;
  lag : l.lag ≤ l.number-index * 2 ^ 100;
}
