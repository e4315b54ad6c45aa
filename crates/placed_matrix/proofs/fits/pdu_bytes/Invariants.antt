use Rattle.std.proofs.Common.{◌≡◌, ◌<◌, ℕ, Some, get_or}
use Rattle.pack_model.specs.declared.item.Item.{Item}
use Rattle.placed_matrix.proofs.fits.pdu_bytes.Given as goal

-- none of the items so far is of the I-PDU
abbrev pub invariant-loop-item : goal.invariant-loop-item
invariant-loop-item l = (k : ℕ) (d : Item) → k < l.item-index → (get_or l.items k d).pdu ≡ Some l.pdu → ⊥
