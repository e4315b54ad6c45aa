use Rattle.std.proofs.Common.{ℕ, ◌<◌, ◌≤◌, length}
use Rattle.priority_assign.specs.Once.{EndsInTime}
use Rattle.priority_assign.proofs.in_time.last_in_time.Given as goal

-- those from the index on are late
abbrev pub invariant-loop-index : goal.invariant-loop-index
invariant-loop-index l = (k : ℕ) → l.index ≤ k → k < length l.level → ¬ (EndsInTime l.frames l.level l.busy k)
