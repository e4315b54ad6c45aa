-- What a walk over a tree finds that it began at a partial grouping.
use Rattle.std.proofs.Common.{◌≡◌, ℕ, List, refl, subst}
use Rattle.pack_model.specs.Problem.{Parts}
use Rattle.cert_text.specs.Trees.{Plain}
use Rattle.grouping_tree.specs.Grouped.{items_in}
use Rattle.grouping_tree.specs.Walk.{places_left}
use Rattle.bandwidth_bound.specs.Trees.{Goal}
use Rattle.cert_check.specs.declared.walk.Aim.{Aim}
use Rattle.cert_check.specs.declared.walk.Walk.{Walk}
use Rattle.cert_check.specs.Nodes.{Takes, TakesTree, Way, nodes_of}
use Rattle.cert_check.specs.Walk.{goal_in, goal_of, start_at, values_in, way_of}
use Rattle.cert_check.proofs.Walks.{takes_tree}

-- a walk took the nodes of a tree that it began at a place
module _ (problem : Parts) (aim : Aim) (values place : List ℕ) (walk : Walk) (after : Way) (tree : Plain)
    (same : walk.aim ≡ aim) (kept : walk.values.items ≡ values)
    (begins : way_of problem walk ≡ start_at (items_in problem.items aim.range) place)
    (takes : Takes (goal_in problem walk) (way_of problem walk) after (nodes_of tree)) where
  -- what the tree is to show
  abbrev shown : Goal
  shown = goal_of problem (values_in aim.range values) aim

  -- the places that the walk comes to after the tree
  abbrev rest : List (List ℕ)
  rest = places_left (items_in problem.items aim.range) 0 place

  -- the walk from its start
  whole : Takes shown (start_at (items_in problem.items aim.range) place) after (nodes_of tree)
  whole =
      subst (λ way. Takes shown way after (nodes_of tree)) begins
      (subst (λ vs. Takes (goal_of problem (values_in aim.range vs) aim) (way_of problem walk) after
      (nodes_of tree)) kept
      (subst (λ (a : Aim). Takes (goal_of problem (values_in a.range walk.values.items) a)
      (way_of problem walk) after (nodes_of tree)) same takes))

  -- it took the tree from its place
  pub place_taken : TakesTree shown place rest (start_at (items_in problem.items aim.range) place) after tree
  place_taken =
      takes_tree shown place rest (start_at (items_in problem.items aim.range) place) after tree refl refl whole
