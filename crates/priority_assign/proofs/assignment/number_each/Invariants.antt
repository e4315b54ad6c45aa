use Rattle.std.proofs.Common.{◌≡◌, ℕ, ◌<◌, get_or}
use Rattle.priority_assign.proofs.assignment.number_each.Given as goal

-- the numbers so far are written
abbrev pub invariant-loop-index : goal.invariant-loop-index
invariant-loop-index l = (k : ℕ) → k < l.index → get_or l.order k 0 ≡ k
