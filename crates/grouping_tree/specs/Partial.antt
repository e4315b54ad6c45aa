-- Partial groupings of a list of items, all of a problem's or one sender's, and the labels that may be put next: the project's own.
use Rattle.std.specs.Prelude.{◌+◌, ◌<◌, ◌≤◌, ◌++◌, ◌&&◌, ℕ, Bool, true, false, not, List, [], ◌∷◌, length, take, filter, nat_eq, nat_lt, nat_le, slice_index, if◌then◌else◌}
use Rattle.std.specs.List.{list_all, range_with_len}
use Rattle.pack_model.specs.declared.item.Item.{Item}
use Rattle.class_frame.specs.Grouping.{class_of, classes_of}
use Rattle.class_frame.specs.Frame.{bytes_of_items, is_pdu}
use Rattle.class_frame.specs.Legal.{ClassStands}

-- labels of the first items, numbered by first use, whose classes can each become a frame
pub record IsPartial (items : List Item) (labels : List ℕ) : Type 0 where
  pub within : length labels ≤ length items
  pub by_first_use : (k : ℕ) → k < length labels → slice_index labels k ≤ classes_of (take k labels)
  pub classes : (label : ℕ) → ClassStands (class_of label labels items)

-- the second list begins with the first
abbrev pub begins : List ℕ → List ℕ → Bool
begins [] q = true
begins (a ∷ p) [] = false
begins (a ∷ p) (b ∷ q) = nat_eq a b && begins p q

-- both are I-PDUs or none is
abbrev pub same_kind : Bool → Bool → Bool
same_kind true other = other
same_kind false other = not other

-- two items have one sender, and are both free or both I-PDUs
abbrev pub alike : Item → Item → Bool
alike item other = nat_eq item.sender other.sender && same_kind (is_pdu item) (is_pdu other)

-- the items can become one frame
abbrev pub is_class : List Item → Bool
is_class [] = true
is_class (item ∷ rest) = list_all (alike item) rest && nat_le (bytes_of_items (item ∷ rest)) 64

-- the class of a label that is put next can become a frame
abbrev pub keeps_legal : List Item → List ℕ → ℕ → Bool
keeps_legal items labels label = is_class (class_of label (labels ++ label ∷ []) items)

-- the labels that may be put next, ascending: none after the last item
abbrev pub options_of : List Item → List ℕ → List ℕ
options_of items labels =
    if nat_lt (length labels) (length items) then filter (keeps_legal items labels) (range_with_len 0 (classes_of labels + 1))
    else []
