-- the positions so far had no mark, and now have one; the others are as they were
use Rattle.std.proofs.Common.{◌≡◌, ℕ, ◌<◌, ◌≤◌, ◌⊎◌, true, false, slice_index_or}
use Rattle.ipdu_layout.proofs.marks.mark.Given as goal

abbrev pub invariant-loop-position : goal.invariant-loop-position
invariant-loop-position l =
    ((p : ℕ) → l.start ≤ p → p < l.position → slice_index_or l.initial.marks p false ≡ false)
    × ((p : ℕ) → l.start ≤ p → p < l.position → slice_index_or l.marks p false ≡ true)
    × ((p : ℕ) → (p < l.start) ⊎ (l.position ≤ p)
    → slice_index_or l.marks p false ≡ slice_index_or l.initial.marks p false)
