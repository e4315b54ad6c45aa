use Rattle.std.proofs.Common.{ℕ, ◌<◌, get_or}
use Rattle.pack_model.specs.declared.item.Item.{Item}
use Rattle.matrix_rows.specs.declared.matrix.MatrixRow.{MatrixRow}
use Rattle.placed_matrix.specs.Placed.{BeginApart}
use Rattle.placed_matrix.proofs.MemberRows.{first_of}
use Rattle.placed_matrix.proofs.checks.begins_apart_from.Given as goal

-- the parts of the items so far begin apart from the row's
abbrev pub invariant-loop-item : goal.invariant-loop-item
invariant-loop-item l = (k : ℕ) (x : Item) → k < l.item-index → (d : MatrixRow)
    → BeginApart (first_of l.rows l.row_of (get_or l.items k x) d) l.row
