-- One place for each signal, said without layouts.
use Rattle.std.specs.Prelude.{ℕ, ◌≡◌, ◌+◌, ◌*◌, ◌≤◌, ◌<◌, List, All, AllPairs}
use Rattle.pack_model.specs.Problem.{Parts}
use Rattle.ipdu_layout.specs.Layout.{Takes}
use Rattle.container_pdu.specs.Bytes.{header_bytes}
use Rattle.matrix_rows.specs.declared.matrix.MatrixRow.{MatrixRow}
use Rattle.placed_matrix.specs.Placed.{OneRow, place_of}

-- the row's signal has the position in the frame of the identifier
pub record Occupies (row : MatrixRow) (id position : ℕ) : Type 0 where
  pub frame : row.id ≡ id
  pub takes : Takes (place_of row) position

-- the header of the row's part has the position in the frame of the identifier: it is the header's bytes just
-- before the part
pub record HeaderOccupies (row : MatrixRow) (id position : ℕ) : Type 0 where
  pub frame : row.id ≡ id
  pub from : 8 * row.at ≤ position + 8 * header_bytes row.header
  pub below : position < 8 * row.at

-- each signal has exactly one row, which says its sender, I-PDU and bits, and there is no other row; a signal
-- has its positions below eight times its frame's size; and no position of a frame belongs to two signals, or
-- to a signal and a header
pub record OnePlace (problem : Parts) (rows : List MatrixRow) : Type 0 where
  pub one_row : OneRow problem.signals rows
  pub inside : All (λ row. row.start + row.bits ≤ 8 * row.size) rows
  pub apart : AllPairs (λ row other. (id position : ℕ) → Occupies row id position → Occupies other id position
      → ⊥) rows
  pub clear : All (λ row. All
      (λ other. (id position : ℕ) → Occupies row id position → HeaderOccupies other id position → ⊥) rows)
      rows
