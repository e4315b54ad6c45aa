use Rattle.std.proofs.Common.{◌≡◌, ℕ, ◌<◌, get_or, length, Any}
use Rattle.matrix_rows.specs.declared.matrix.MatrixRow.{MatrixRow}
use Rattle.placed_matrix.specs.Placed.{RowOf}
use Rattle.placed_matrix.proofs.RowsFound.{HasRow, name_at}
use Rattle.placed_matrix.proofs.signal_rows.find_rows.Given as goal

-- each signal has its row so far, and each row so far is of a signal
abbrev pub invariant-loop-number : goal.invariant-loop-number
invariant-loop-number l = record {
  long : length l.row_of ≡ 2048;
  seen : (p : ℕ) → p < length l.problem.signals
      → HasRow l.rows l.number (name_at l.problem.signals p) (get_or l.row_of p 0);
  others : (k : ℕ) (d : MatrixRow) → k < l.number → Any (λ s. RowOf s (get_or l.rows k d)) l.problem.signals;
}
