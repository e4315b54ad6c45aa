use Rattle.std.proofs.Common.{ℕ, ◌<◌, get_or}
use Rattle.pack_model.specs.declared.item.Item.{Item}
use Rattle.placed_matrix.specs.Tables.{RowFits, RowsOf}
use Rattle.placed_matrix.proofs.fits.rows_fit.Given as goal

-- the rows of the items so far fit
abbrev pub invariant-loop-number : goal.invariant-loop-number
invariant-loop-number l = (k : ℕ) (d : Item) → k < l.number
    → RowsOf (RowFits l.problem l.rows) l.rows l.row_of (get_or l.items k d).members
