-- The holes in what was told of a certificate, each with its place and the tree that stands there in full.
use Rattle.std.specs.Prelude.{ℕ, All, List, [], ◌∷◌, ◌++◌, map, Option, None, Some}
use Rattle.std.specs.List.{flat_map}
use Rattle.pack_model.specs.Problem.{Parts}
use Rattle.cert_text.specs.Trees.{Plain}
use Rattle.bandwidth_bound.specs.Prices.{lower8_of}
use Rattle.bandwidth_bound.specs.Trees.{Goal, TreeStands, open_places}
use Rattle.cert_check.specs.declared.cert_walk.CertWalk.{CertWalk}
use Rattle.cert_check.specs.declared.walk.Aim.{Aim}
use Rattle.cert_check.specs.Entries.{Entry}
use Rattle.cert_check.specs.Nodes.{Node, bound_leaf, fail_leaf, hole, inner_node, lowered, open_leaf, places_of}
use Rattle.cert_check.specs.Places.{labels_at}
use Rattle.cert_check.specs.Said.{Said, TreeSaid, said_by}
use Rattle.cert_check.specs.Taken.{goal_said, load_in}
use Rattle.cert_check.specs.Walk.{goal_of, values_in, values_used}

-- A hole: what the tree that it is in is to show, the values of lemmas that bounds use there, its place, and
-- the tree in whose place it stands.
pub record Hole : Type 0 where
  pub aim : Aim
  pub values : List ℕ
  pub place : List ℕ
  pub tree : Plain

-- its tree stands at its place
abbrev pub HoleStands : Parts → Hole → Type 0
HoleStands problem h = TreeStands (goal_of problem h.values h.aim) h.place h.tree

-- the hole at a place, if the node is one
abbrev pub hole_at : List ℕ → Node → List (List ℕ × Plain)
hole_at p (inner_node n) = []
hole_at p bound_leaf = []
hole_at p open_leaf = []
hole_at p (fail_leaf named) = []
hole_at p (hole tree) = (p, tree) ∷ []

-- the holes among nodes, where these places are to come
unfoldable pub holes_in : Goal → List (List ℕ) → List Node → List (List ℕ × Plain)
holes_in goal places [] = []
holes_in goal [] (node ∷ nodes) = []
holes_in goal (p ∷ places) (node ∷ nodes) =
    hole_at p node ++ holes_in goal (places_of goal p node ++ places) nodes

-- those of a tree that was told
abbrev pub holes_of_tree : Parts → TreeSaid → List Hole
holes_of_tree problem tree =
    map (λ (h : List ℕ × Plain). record {
      aim = tree.aim;
      values = values_in tree.aim.range tree.values;
      place = h.0;
      tree = h.1;
    }) (holes_in (goal_said problem tree) ([] ∷ []) tree.nodes)

-- those of trees, the last of which comes first
abbrev pub holes_of_trees : Parts → List TreeSaid → List Hole
holes_of_trees problem [] = []
holes_of_trees problem (tree ∷ trees) = holes_of_trees problem trees ++ holes_of_tree problem tree

-- all that were told, from the first to the last
abbrev pub told_holes : Parts → Said → List Hole
told_holes problem s = holes_of_trees problem (s.tree ∷ s.older)

-- those that a walk was told
abbrev pub holes_of : Parts → CertWalk → List Entry → List Hole
holes_of problem walk entries = told_holes problem (said_by problem (load_in walk.placing) entries)

-- each of them stands
abbrev pub HolesStand : Parts → CertWalk → List Entry → Type 0
HolesStand problem walk entries = All (HoleStands problem) (holes_of problem walk entries)

-- the bounds at the open leaves of a hole's tree, where it stands in the main tree
abbrev pub bounds_over : Parts → Option ℕ → Hole → List ℕ
bounds_over problem None h =
    map (lower8_of problem h.values problem.items) (open_places problem.items h.place h.tree)
bounds_over problem (Some sender) h = []

abbrev pub bounds_in_hole : Parts → Hole → List ℕ
bounds_in_hole problem h = bounds_over problem h.aim.range h

-- the least of these
abbrev pub least_in_holes : Parts → CertWalk → List Entry → Option ℕ
least_in_holes problem walk entries =
    lowered None (flat_map (bounds_in_hole problem) (holes_of problem walk entries))

-- a hole where a walk is
abbrev pub hole_here : Parts → CertWalk → Plain → Hole
hole_here problem walk tree = record {
  aim = walk.walk.aim;
  values = values_used walk.walk;
  place = labels_at walk.walk.place;
  tree = tree;
}
