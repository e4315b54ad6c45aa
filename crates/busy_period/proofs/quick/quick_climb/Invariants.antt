use Rattle.std.proofs.Common.{ℕ, ◌≤◌}
use Rattle.busy_period.specs.Busy.{IsFit}
use Rattle.busy_period.proofs.quick.quick_climb.Given as goal

-- the climb has passed by no solution
abbrev pub invariant-loop : goal.invariant-loop
invariant-loop l = record {
  from : l.time ≤ l.reached;
  within : l.reached ≤ l.limit;
  below : (later : ℕ) → IsFit l.frames l.numbers l.base l.ahead l.time later → l.reached ≤ later;
}
