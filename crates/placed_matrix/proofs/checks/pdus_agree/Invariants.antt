use Rattle.std.proofs.Common.{ℕ, ◌<◌, get_or}
use Rattle.pack_model.specs.declared.item.Item.{Item}
use Rattle.placed_matrix.proofs.MemberRows.{ItemTogether}
use Rattle.placed_matrix.proofs.checks.pdus_agree.Given as goal

-- the members of each item so far stand together
abbrev pub invariant-loop-item : goal.invariant-loop-item
invariant-loop-item l = (k : ℕ) (d : Item) → k < l.item-index
    → ItemTogether l.rows l.row_of (get_or l.items k d)
