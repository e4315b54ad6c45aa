use Rattle.std.proofs.Common.{ℕ, ◌+◌, ◌-◌, ◌≤◌}
use Rattle.busy_period.specs.Busy.{IsFit}
use Rattle.busy_period.proofs.period.least_fit.Given as goal

-- the climb has passed by no solution
abbrev pub invariant-loop-time : goal.invariant-loop-time
invariant-loop-time l = record {
  begun : l.fn.from ≤ l.time;
  below : (time : ℕ) → IsFit l.frames l.numbers l.base l.ahead l.fn.from time → l.time ≤ time;
}

abbrev pub decreases-loop-time : goal.decreases-loop-time
decreases-loop-time l = l.limit + 1 - l.time
