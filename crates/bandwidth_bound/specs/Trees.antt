-- Trees over the partial groupings of a list of items, and when they stand: the project's own.
use Rattle.std.specs.Prelude.{ℕ, Bool, ◌≡◌, true, ◌<◌, ⊤, List, [], ◌∷◌, ◌++◌, length, Option}
use Rattle.pack_model.specs.declared.item.Item.{Item}
use Rattle.response_test.specs.declared.evidence.Evidence.{Evidence}
use Rattle.grouping_tree.specs.Partial.{options_of}
use Rattle.cert_text.specs.Trees.{Plain, Plains, bound, fail, inner, left, more, none}
use Rattle.bandwidth_bound.specs.Bounds.{Reaches}

-- What a tree is to show of the groupings of some items.
pub record Goal : Type 1 where
  -- the items
  pub items : List Item
  -- the lower bound at a partial grouping
  pub lower8 : List ℕ → ℕ
  -- the number that the bound of each bound leaf is to reach, if there is one
  pub value : Option ℕ
  -- leaves may be left open
  pub may_leave : Bool
  -- the classes that a fail leaf names are refuted at a partial grouping
  pub AreFailing : List ℕ → List (ℕ × Evidence) → Type 0

-- A tree stands at a partial grouping: an inner node where items are left, with one subtree for each option,
-- in order, that stands with the option put; a bound leaf where the bound reaches the value; an open leaf
-- where leaves may be left open; a fail leaf where its classes are refuted.
abbrev mutual
  pub TreeStands : Goal → List ℕ → Plain → Type 0
  TreeStands goal p (inner trees) =
      (length p < length goal.items) × EachStands goal p (options_of goal.items p) trees
  TreeStands goal p bound = Reaches goal.value (goal.lower8 p)
  TreeStands goal p left = goal.may_leave ≡ true
  TreeStands goal p (fail named) = goal.AreFailing p named

  -- the trees stand, one for each of the labels put next
  pub EachStands : Goal → List ℕ → List ℕ → Plains → Type 0
  EachStands goal p [] none = ⊤
  EachStands goal p [] (more tree trees) = ⊥
  EachStands goal p (label ∷ labels) none = ⊥
  EachStands goal p (label ∷ labels) (more tree trees) =
      TreeStands goal (p ++ label ∷ []) tree × EachStands goal p labels trees

-- A leaf of a tree, with the partial grouping that it stands at.
pub record Leaf : Type 0 where
  pub place : List ℕ
  pub sign : Plain

-- the leaves of a tree at a partial grouping of items, in order
abbrev mutual
  pub leaves : List Item → List ℕ → Plain → List Leaf
  leaves items p (inner trees) = leaves_each items p (options_of items p) trees
  leaves items p bound = record { place = p; sign = bound } ∷ []
  leaves items p left = record { place = p; sign = left } ∷ []
  leaves items p (fail named) = record { place = p; sign = fail named } ∷ []

  pub leaves_each : List Item → List ℕ → List ℕ → Plains → List Leaf
  leaves_each items p [] trees = []
  leaves_each items p (label ∷ labels) none = []
  leaves_each items p (label ∷ labels) (more tree trees) =
      leaves items (p ++ label ∷ []) tree ++ leaves_each items p labels trees

-- the places of the open leaves, in order
abbrev mutual
  pub open_places : List Item → List ℕ → Plain → List (List ℕ)
  open_places items p (inner trees) = open_places_each items p (options_of items p) trees
  open_places items p bound = []
  open_places items p left = p ∷ []
  open_places items p (fail named) = []

  pub open_places_each : List Item → List ℕ → List ℕ → Plains → List (List ℕ)
  open_places_each items p [] trees = []
  open_places_each items p (label ∷ labels) none = []
  open_places_each items p (label ∷ labels) (more tree trees) =
      open_places items (p ++ label ∷ []) tree ++ open_places_each items p labels trees
