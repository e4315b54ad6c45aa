use Rattle.std.proofs.Common.{ℕ, ◌+◌, ◌*◌, ◌^◌, ◌≤◌, take}
use Rattle.busy_period.specs.Demand.{work_of}
use Rattle.busy_period.proofs.line.line_below.Given as goal

-- the line is below the work of the frames so far
abbrev pub invariant-loop-number : goal.invariant-loop-number
invariant-loop-number l = record {
  below : (time : ℕ) → l.offset + l.slope * time
      ≤ 68719476736 * work_of l.frames (take l.number-index l.numbers) time;
  offset : l.offset ≤ l.number-index * 2 ^ 100;
  slope : l.slope ≤ l.number-index * 2 ^ 63;
}
