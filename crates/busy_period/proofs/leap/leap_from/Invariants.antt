use Rattle.std.proofs.Common.{ℕ, ◌≤◌}
use Rattle.busy_period.specs.Busy.{IsMadeUp}
use Rattle.busy_period.proofs.leap.leap_from.Given as goal

-- the gap is not made up for before the time that was found
abbrev pub invariant-loop : goal.invariant-loop
invariant-loop l = record {
  before : (more : ℕ) → IsMadeUp l.frames l.numbers l.time l.gap more → l.reach ≤ more;
  gap : l.gap ≤ l.reach;
}
