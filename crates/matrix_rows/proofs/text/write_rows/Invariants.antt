use Rattle.std.proofs.Common.{◌≡◌, ◌++◌, [], drop, map, take}
use Rattle.std.specs.Prelude.{All}
use Rattle.csv_table.specs.Writing.{rows_text}
use Rattle.matrix_rows.specs.MatrixText.{ReadsBack, row_fields}
use Rattle.matrix_rows.proofs.text.write_rows.Given as goal

-- the text so far and that of the rows that are left are the whole; those so far are read back
abbrev pub invariant-loop-row : goal.invariant-loop-row
invariant-loop-row l =
    (l.out.row ≡ [])
    × (l.out.text ++ rows_text (map row_fields (drop l.row-index l.rows)) ≡ l.initial.out.text
    ++ rows_text (map row_fields l.rows))
    × All ReadsBack (take l.row-index l.rows)
