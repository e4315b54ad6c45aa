use Rattle.std.proofs.Common.{◌≡◌, ℕ, ◌<◌, ◌≤◌, length}
use Rattle.priority_assign.specs.Level.{moved_last, PassesAt}
use Rattle.priority_assign.proofs.level.choose_tested.Given as goal

-- the entry that was tried last is at the end, and it and those after it fail
abbrev pub invariant-loop-index : goal.invariant-loop-index
invariant-loop-index l = record {
  moved : l.level ≡ moved_last l.initial.level l.index;
  failed : (k : ℕ) → l.index ≤ k → k < length l.initial.level → ¬ (PassesAt l.frames l.initial.level l.blocked l.bit k);
}
