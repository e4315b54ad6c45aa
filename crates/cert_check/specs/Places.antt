-- The place of the next node of a walk: the labels that are put, and one more that is known.
use Rattle.std.specs.Prelude.{◌≡◌, ◌≤◌, ◌++◌, List, [], ◌∷◌, ℕ, length, take, Option, None, Some, IfSome}
use Rattle.pack_model.specs.Problem.{Parts}
use Rattle.grouping_tree.specs.Grouped.{Belongs, labels_of, range_of, room_of, sender_of}
use Rattle.grouping_tree.specs.Partial.{IsPartial}
use Rattle.cert_check.specs.declared.node_place.NodePlace.{NodePlace}

-- some labels, and one more where it is known
abbrev pub labels_with : List ℕ → Option ℕ → List ℕ
labels_with labels None = labels
labels_with labels (Some label) = labels ++ label ∷ []

-- the labels of a place
abbrev pub labels_at : NodePlace → List ℕ
labels_at place = labels_with (labels_of place.partial) place.ahead

-- the place is one of the problem: its labels are a partial grouping, and stand at the front of what is kept of them
pub record IsPlace (problem : Parts) (place : NodePlace) : Type 0 where
  pub belongs : Belongs problem place.partial
  pub legal : IfSome place.ahead
      (λ label. IsPartial (range_of problem place.partial) (labels_of place.partial ++ label ∷ []))
  pub long : room_of place.partial ≤ length place.labels.items
  pub front : take (length (labels_at place)) place.labels.items ≡ labels_at place

-- both are over the same items, with the same room
pub record IsOver (problem : Parts) (before after : NodePlace) : Type 0 where
  pub range : range_of problem after.partial ≡ range_of problem before.partial
  pub sender : sender_of after.partial ≡ sender_of before.partial
  pub room : room_of after.partial ≡ room_of before.partial
