use Rattle.std.proofs.Common.{◌≡◌, ◌≤◌, ◌+◌, length}
use Rattle.csv_table.specs.Columns.{rows_from}
use Rattle.csv_table.proofs.Loop.{with_front}
use Rattle.matrix_rows.specs.MatrixText.{bad_row, row_of}
use Rattle.matrix_rows.proofs.text.read_rows.Given as goal

-- the rows so far and those of the records that are left are those of all records, of which the numbers fit
abbrev pub invariant-loop-number : goal.invariant-loop-number
invariant-loop-number l =
    (with_front l.matrix.items (rows_from bad_row row_of l.number l.rows)
    ≡ rows_from bad_row row_of 2 l.initial.rows)
    × (l.number + length l.rows ≤ 2 + length l.initial.rows)
