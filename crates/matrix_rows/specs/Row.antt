-- The ranges of a row's figures, as the text of a matrix has them. Data lengths are those of ISO 11898-1; the
-- other limits are the project's own.
use Rattle.std.specs.Prelude.{◌≤◌}
use Rattle.std.specs.Option.{ForSome}
use Rattle.fd_length.specs.Size.{IsSize}
use Rattle.matrix_rows.specs.declared.matrix.MatrixRow.{MatrixRow}

-- each figure of the row is in its range; its names are names by their type
pub record RowInRange (row : MatrixRow) : Type 0 where
  pub id : row.id ≤ 2047
  pub size : IsSize row.size
  pub ticks : row.ticks ≤ 9999999999
  pub pdu : ForSome row.pdu (λ id. 1 ≤ id)
  pub at : row.at ≤ 63
  pub start : row.start ≤ 511
  pub bits_low : 1 ≤ row.bits
  pub bits_high : row.bits ≤ 512
