use Rattle.std.proofs.Common.{ℕ, ◌<◌, get_or, slice_index}
use Rattle.matrix_rows.specs.declared.matrix.MatrixRow.{MatrixRow}
use Rattle.placed_matrix.specs.Tables.{AtOnePlace}
use Rattle.placed_matrix.proofs.checks.stand_with.Given as goal

-- the rows of the places so far stand with the row
abbrev pub invariant-loop-place : goal.invariant-loop-place
invariant-loop-place l = (k : ℕ) (e : ℕ) → k < l.place-index → (d : MatrixRow)
    → AtOnePlace (get_or l.rows (slice_index l.row_of (get_or l.places k e)) d) l.row
