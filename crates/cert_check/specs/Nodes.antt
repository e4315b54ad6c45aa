-- A walk over the nodes of a tree in preorder, which judges each at the place where it stands: the project's
-- own.
use Rattle.std.specs.Prelude.{◌≡◌, ◌<◌, ⊤, ℕ, suc, zero, Bool, true, false, min, List, [], ◌∷◌, ◌++◌, length, map, Option, None, Some}
use Rattle.pack_model.specs.declared.item.Item.{Item}
use Rattle.cert_text.specs.Trees.{Plain, Plains, bound, fail, inner, left, more, none}
use Rattle.response_test.specs.declared.evidence.Evidence.{Evidence}
use Rattle.grouping_tree.specs.Partial.{options_of}
use Rattle.grouping_tree.specs.Walk.{places_below}
use Rattle.bandwidth_bound.specs.Bounds.{Reaches}
use Rattle.bandwidth_bound.specs.Trees.{Goal, TreeStands, open_places}

-- a node of a tree: an inner node with so many subtrees, a leaf, or a hole in the place of a whole tree
pub data Node : Type 0 where
  inner_node : ℕ → Node
  bound_leaf : Node
  open_leaf : Node
  fail_leaf : List (ℕ × Evidence) → Node
  hole : Plain → Node

-- how many trees
abbrev pub count_trees : Plains → ℕ
count_trees none = zero
count_trees (more tree trees) = suc (count_trees trees)

-- the nodes of a tree, in preorder
unfoldable mutual
  pub nodes_of : Plain → List Node
  nodes_of (inner trees) = inner_node (count_trees trees) ∷ nodes_of_each trees
  nodes_of bound = bound_leaf ∷ []
  nodes_of left = open_leaf ∷ []
  nodes_of (fail named) = fail_leaf named ∷ []

  pub nodes_of_each : Plains → List Node
  nodes_of_each none = []
  nodes_of_each (more tree trees) = nodes_of tree ++ nodes_of_each trees

-- items are left, and so many labels may be put next
abbrev pub IsSplit : List Item → List ℕ → ℕ → Type 0
IsSplit items p n = (length p < length items) × (n ≡ length (options_of items p))

-- a node stands at a partial grouping: an inner node where items are left, with one subtree for each option;
-- a leaf by its rule; a hole anywhere
abbrev pub NodeStands : Goal → List ℕ → Node → Type 0
NodeStands goal p (inner_node n) = IsSplit goal.items p n
NodeStands goal p bound_leaf = Reaches goal.value (goal.lower8 p)
NodeStands goal p open_leaf = goal.may_leave ≡ true
NodeStands goal p (fail_leaf named) = goal.AreFailing p named
NodeStands goal p (hole tree) = ⊤

-- the places that are still to come for a node at a place
abbrev pub places_of : Goal → List ℕ → Node → List (List ℕ)
places_of goal p (inner_node n) = places_below goal.items p
places_of goal p bound_leaf = []
places_of goal p open_leaf = []
places_of goal p (fail_leaf named) = []
places_of goal p (hole tree) = []

-- the bound at an open leaf
abbrev pub bounds_at : Goal → List ℕ → Node → List ℕ
bounds_at goal p (inner_node n) = []
bounds_at goal p bound_leaf = []
bounds_at goal p open_leaf = goal.lower8 p ∷ []
bounds_at goal p (fail_leaf named) = []
bounds_at goal p (hole tree) = []

-- nodes stand, one after the other, where these places are to come
unfoldable pub NodesStand : Goal → List (List ℕ) → List Node → Type 0
NodesStand goal places [] = ⊤
NodesStand goal [] (node ∷ nodes) = ⊥
NodesStand goal (p ∷ places) (node ∷ nodes) =
    NodeStands goal p node × NodesStand goal (places_of goal p node ++ places) nodes

-- the places to come after them
unfoldable pub places_after_nodes : Goal → List (List ℕ) → List Node → List (List ℕ)
places_after_nodes goal places [] = places
places_after_nodes goal [] (node ∷ nodes) = []
places_after_nodes goal (p ∷ places) (node ∷ nodes) =
    places_after_nodes goal (places_of goal p node ++ places) nodes

-- the bounds at the open leaves among them
unfoldable pub bounds_of : Goal → List (List ℕ) → List Node → List ℕ
bounds_of goal places [] = []
bounds_of goal [] (node ∷ nodes) = []
bounds_of goal (p ∷ places) (node ∷ nodes) =
    bounds_at goal p node ++ bounds_of goal (places_of goal p node ++ places) nodes

-- the least of some numbers and of what was the least before, if anything was
abbrev pub lowered : Option ℕ → List ℕ → Option ℕ
lowered least [] = least
lowered None (x ∷ xs) = lowered (Some x) xs
lowered (Some least) (x ∷ xs) = lowered (Some (min least x)) xs

-- Where a walk is: whether some node didn't stand, the places still to come in preorder, and the least bound
-- at the open
-- leaves so far, if there was one.
pub record Way : Type 0 where
  pub failed : Bool
  pub places : List (List ℕ)
  pub least : Option ℕ

-- A tree took a walk from a place, before these others, to the next of them: it failed exactly where the tree
-- doesn't stand at the place, and the least bound was lowered to those at the tree's open leaves.
pub record TakesTree (goal : Goal) (p : List ℕ) (rest : List (List ℕ)) (before after : Way)
    (tree : Plain) : Type 0 where
  pub fails : after.failed ≡ true → ¬ TreeStands goal p tree
  pub stands : after.failed ≡ false → TreeStands goal p tree
  pub places : after.failed ≡ false → after.places ≡ rest
  pub least : after.failed ≡ false
      → after.least ≡ lowered before.least (map goal.lower8 (open_places goal.items p tree))

-- nodes took a walk from the one to the other: it failed exactly where one of them doesn't stand, and stays
-- failed
pub record Takes (goal : Goal) (before after : Way) (nodes : List Node) : Type 0 where
  pub stays : before.failed ≡ true → after.failed ≡ true
  pub fails : before.failed ≡ false → after.failed ≡ true → ¬ NodesStand goal before.places nodes
  pub stands : after.failed ≡ false → NodesStand goal before.places nodes
  pub places : after.failed ≡ false → after.places ≡ places_after_nodes goal before.places nodes
  pub least : after.failed ≡ false → after.least ≡ lowered before.least (bounds_of goal before.places nodes)
