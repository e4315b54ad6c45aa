-- Groupings whose classes can become frames. 64 bytes are those of ISO 11898-1.
use Rattle.std.specs.Prelude.{ℕ, ◌≡◌, ◌≤◌, List, AllPairs}
use Rattle.pack_model.specs.declared.item.Item.{Item}
use Rattle.class_frame.specs.Grouping.{IsGrouping, class_of}
use Rattle.class_frame.specs.Frame.{is_pdu, bytes_of_items}

-- the items of a class have one sender, are all free or all I-PDUs, and take at most 64 bytes
pub record ClassStands (items : List Item) : Type 0 where
  pub one_sender : AllPairs (λ item other. item.sender ≡ other.sender) items
  pub one_kind : AllPairs (λ item other. is_pdu item ≡ is_pdu other) items
  pub small : bytes_of_items items ≤ 64

-- the labels group the items, and each class can become a frame
pub record IsLegal (items : List Item) (labels : List ℕ) : Type 0 where
  pub grouping : IsGrouping items labels
  pub classes : (label : ℕ) → ClassStands (class_of label labels items)
