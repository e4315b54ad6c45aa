-- Nodes with those of its tree in the place of each hole.
use Rattle.std.specs.Prelude.{⊤}
use Rattle.std.proofs.Common.{◌≡◌, ℕ, min, List, [], ◌∷◌, ◌++◌, map, Option, None, Some, refl, sym, ap, subst, ◌∙◌, append_assoc, append-nil}
use Rattle.std.specs.List.{flat_map}
use Rattle.cert_text.specs.Trees.{Plain, bound, fail, inner, left}
use Rattle.bandwidth_bound.specs.Trees.{Goal, TreeStands, open_places}
use Rattle.cert_check.specs.Holes.{hole_at, holes_in}
use Rattle.cert_check.specs.Nodes.{Node, NodesStand, bound_leaf, bounds_of, fail_leaf, hole, inner_node, lowered, nodes_of, open_leaf, places_after_nodes, places_of}
use Rattle.cert_check.proofs.TreeLaws.{lowered_swap}
use Rattle.cert_check.proofs.Walks.{bounds_append, lowered_append, stand_append, stand_first, stand_further, stood, walked}

-- a node in full
abbrev pub filled_node : Node → List Node
filled_node (inner_node n) = inner_node n ∷ []
filled_node bound_leaf = bound_leaf ∷ []
filled_node open_leaf = open_leaf ∷ []
filled_node (fail_leaf named) = fail_leaf named ∷ []
filled_node (hole tree) = nodes_of tree

-- nodes in full
abbrev pub filled : List Node → List Node
filled nodes = flat_map filled_node nodes

module _ (goal : Goal) where
  -- the trees of holes stand, each at its place
  abbrev pub EachHole : List (List ℕ × Plain) → Type 0
  EachHole [] = ⊤
  EachHole (h ∷ holes) = TreeStands goal h.0 h.1 × EachHole holes

  -- the bounds at their open leaves
  abbrev pub bounds_at_hole : List ℕ × Plain → List ℕ
  bounds_at_hole h = map goal.lower8 (open_places goal.items h.0 h.1)

  abbrev pub hole_bounds : List (List ℕ × Plain) → List ℕ
  hole_bounds holes = flat_map bounds_at_hole holes

  -- a tree has nodes
  no_tree : (t : Plain) → NodesStand goal [] (nodes_of t) → ⊥
  unfolding nodes_of NodesStand
  no_tree (inner ts) a = a
  no_tree bound a = a
  no_tree left a = a
  no_tree (fail named) a = a

  -- nodes that stand do so in full where the trees of holes stand
  pub fill_stand : (places : List (List ℕ)) (ns : List Node) → NodesStand goal places ns
      → EachHole (holes_in goal places ns) → NodesStand goal places (filled ns)
  unfolding NodesStand holes_in
  fill_stand places [] a h = tt
  fill_stand [] (n ∷ ns) a h = absurd a
  fill_stand (p ∷ places) (inner_node n ∷ ns) a h =
      (a.0, fill_stand (places_of goal p (inner_node n) ++ places) ns a.1 h)
  fill_stand (p ∷ places) (bound_leaf ∷ ns) a h = (a.0, fill_stand places ns a.1 h)
  fill_stand (p ∷ places) (open_leaf ∷ ns) a h = (a.0, fill_stand places ns a.1 h)
  fill_stand (p ∷ places) (fail_leaf named ∷ ns) a h = (a.0, fill_stand places ns a.1 h)
  fill_stand (p ∷ places) (hole t ∷ ns) a h =
      let here = walked goal p places t h.0 in
      stand_append goal (p ∷ places) (nodes_of t) (filled ns) here.stand
      (subst (λ ps. NodesStand goal ps (filled ns)) (sym here.after) (fill_stand places ns a.1 h.1))

  -- and conversely
  pub fill_stood : (places : List (List ℕ)) (ns : List Node) → NodesStand goal places (filled ns)
      → NodesStand goal places ns × EachHole (holes_in goal places ns)
  unfolding NodesStand holes_in
  fill_stood places [] a = (tt, tt)
  fill_stood [] (inner_node n ∷ ns) a = absurd a
  fill_stood [] (bound_leaf ∷ ns) a = absurd a
  fill_stood [] (open_leaf ∷ ns) a = absurd a
  fill_stood [] (fail_leaf named ∷ ns) a = absurd a
  fill_stood [] (hole t ∷ ns) a = absurd (no_tree t (stand_first goal [] (nodes_of t) (filled ns) a))
  fill_stood (p ∷ places) (inner_node n ∷ ns) a =
      let more = fill_stood (places_of goal p (inner_node n) ++ places) ns a.1 in ((a.0, more.0), more.1)
  fill_stood (p ∷ places) (bound_leaf ∷ ns) a =
      let more = fill_stood places ns a.1 in ((a.0, more.0), more.1)
  fill_stood (p ∷ places) (open_leaf ∷ ns) a =
      let more = fill_stood places ns a.1 in ((a.0, more.0), more.1)
  fill_stood (p ∷ places) (fail_leaf named ∷ ns) a =
      let more = fill_stood places ns a.1 in ((a.0, more.0), more.1)
  fill_stood (p ∷ places) (hole t ∷ ns) a =
      let here : TreeStands goal p t =
      stood goal p places t (stand_first goal (p ∷ places) (nodes_of t) (filled ns) a) in
      let more =
      fill_stood places ns (subst (λ ps. NodesStand goal ps (filled ns)) (walked goal p places t here).after
      (stand_further goal (p ∷ places) (nodes_of t) (filled ns) a)) in ((tt, more.0), (here, more.1))

  -- the least bound in full is that with those in the holes
  pub fill_least : (o : Option ℕ) (places : List (List ℕ)) (ns : List Node) → NodesStand goal places ns
      → EachHole (holes_in goal places ns)
      → lowered o (bounds_of goal places (filled ns))
      ≡ lowered (lowered o (bounds_of goal places ns)) (hole_bounds (holes_in goal places ns))
  unfolding NodesStand holes_in bounds_of
  fill_least o places [] a h = refl
  fill_least o [] (n ∷ ns) a h = absurd a
  fill_least o (p ∷ places) (inner_node n ∷ ns) a h =
      fill_least o (places_of goal p (inner_node n) ++ places) ns a.1 h
  fill_least o (p ∷ places) (bound_leaf ∷ ns) a h = fill_least o places ns a.1 h
  fill_least None (p ∷ places) (open_leaf ∷ ns) a h = fill_least (Some (goal.lower8 p)) places ns a.1 h
  fill_least (Some n) (p ∷ places) (open_leaf ∷ ns) a h =
      fill_least (Some (min n (goal.lower8 p))) places ns a.1 h
  fill_least o (p ∷ places) (fail_leaf named ∷ ns) a h = fill_least o places ns a.1 h
  fill_least o (p ∷ places) (hole t ∷ ns) a h =
      let here = walked goal p places t h.0 in
      let there : List ℕ = bounds_at_hole (p, t) in
      let later : List ℕ = hole_bounds (holes_in goal places ns) in
      ap (lowered o) (bounds_append goal (p ∷ places) (nodes_of t) (filled ns) here.stand
      ∙ ap (λ xs. xs ++ bounds_of goal (places_after_nodes goal (p ∷ places) (nodes_of t)) (filled ns))
      here.opens
      ∙ ap (λ ps. there ++ bounds_of goal ps (filled ns)) here.after)
      ∙ lowered_append o there (bounds_of goal places (filled ns))
      ∙ fill_least (lowered o there) places ns a.1 h.1
      ∙ ap (λ q. lowered q later) (lowered_swap o there (bounds_of goal places ns))
      ∙ sym (lowered_append (lowered o (bounds_of goal places ns)) there later)

  -- no places, no holes
  pub holes_none : (ns : List Node) → holes_in goal [] ns ≡ []
  unfolding holes_in
  holes_none [] = refl
  holes_none (n ∷ ns) = refl

  -- the holes among nodes and then further ones
  pub holes_append : (places : List (List ℕ)) (ns ms : List Node)
      → holes_in goal places (ns ++ ms)
      ≡ holes_in goal places ns ++ holes_in goal (places_after_nodes goal places ns) ms
  unfolding holes_in places_after_nodes
  holes_append places [] ms = refl
  holes_append [] (n ∷ ns) ms = sym (holes_none ms)
  holes_append (p ∷ places) (n ∷ ns) ms =
      ap (λ hs. hole_at p n ++ hs) (holes_append (places_of goal p n ++ places) ns ms)
      ∙ sym (append_assoc (hole_at p n) (holes_in goal (places_of goal p n ++ places) ns)
      (holes_in goal (places_after_nodes goal (places_of goal p n ++ places) ns) ms))

  -- a node that is no hole adds none
  pub holes_more : (places : List (List ℕ)) (ns : List Node) (n : Node)
      → ((p : List ℕ) → hole_at p n ≡ []) → holes_in goal places (ns ++ n ∷ []) ≡ holes_in goal places ns
  unfolding holes_in
  holes_more places ns n no_hole =
      holes_append places ns (n ∷ []) ∙ ap (λ hs. holes_in goal places ns ++ hs)
      (by (places_after_nodes goal places ns)) ∙ append-nil (holes_in goal places ns)
    where
      by : (ps : List (List ℕ)) → holes_in goal ps (n ∷ []) ≡ []
      by [] = refl
      by (p ∷ ps) = ap (λ hs. hs ++ holes_in goal (places_of goal p n ++ ps) []) (no_hole p)

-- nodes without nodes in full are none
pub filled_none : (ns : List Node) → filled ns ≡ [] → ns ≡ []
unfolding nodes_of
filled_none [] e = refl
filled_none (inner_node n ∷ ns) e = absurd cc
filled_none (bound_leaf ∷ ns) e = absurd cc
filled_none (open_leaf ∷ ns) e = absurd cc
filled_none (fail_leaf named ∷ ns) e = absurd cc
filled_none (hole (inner ts) ∷ ns) e = absurd cc
filled_none (hole bound ∷ ns) e = absurd cc
filled_none (hole left ∷ ns) e = absurd cc
filled_none (hole (fail named) ∷ ns) e = absurd cc
