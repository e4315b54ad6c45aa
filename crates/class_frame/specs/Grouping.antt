-- Groupings of items into classes, each of which becomes one frame. One label an item, numbered by first use, is the project's own.
use Rattle.std.specs.Prelude.{ℕ, ◌≡◌, ◌+◌, ◌<◌, ◌≤◌, ◌==◌, max, List, [], ◌∷◌, length, map, filter, take, count_by, slice_index, All}
use Rattle.std.specs.List.{zip}
use Rattle.pack_model.specs.declared.item.Item.{Item}

-- the number of classes of labels that are numbered by first use: one more than the greatest label
abbrev pub classes_of : List ℕ → ℕ
classes_of [] = 0
classes_of (label ∷ labels) = max (label + 1) (classes_of labels)

-- what has the label, in order
abbrev pub class_of : {X : Type 0} → ℕ → List ℕ → List X → List X
class_of label labels items = map (λ e. e.1) (filter (λ e. e.0 == label) (zip labels items))

-- labels of the first items, numbered by first use: each is at most the number of classes of those before it
pub record AreFirstLabels (items : List Item) (labels : List ℕ) : Type 0 where
  pub within : length labels ≤ length items
  pub by_first_use : (k : ℕ) → k < length labels → slice_index labels k ≤ classes_of (take k labels)

-- one label an item, and each is at most the number of classes of those before it
pub record IsGrouping (items : List Item) (labels : List ℕ) : Type 0 where
  pub each : length labels ≡ length items
  pub by_first_use : (k : ℕ) → k < length labels → slice_index labels k ≤ classes_of (take k labels)

-- the order names each class once, and nothing else
pub record IsOrder (labels order : List ℕ) : Type 0 where
  pub once : (label : ℕ) → label < classes_of labels → count_by (λ x. x == label) order ≡ 1
  pub only : All (λ label. label < classes_of labels) order
