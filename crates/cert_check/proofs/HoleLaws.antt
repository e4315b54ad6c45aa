-- What was told with holes, and the same in full: the events of its tree in the place of each hole.
use Rattle.std.proofs.Common.{◌≡◌, ℕ, All, List, [], ◌∷◌, ◌++◌, fold, map, Option, refl, sym, ap, subst, ◌∙◌, append_assoc, append-nil}
use Rattle.std.proofs.lemmas.Grind.{flat_map-append}
use Rattle.std.proofs.lemmas.List.{map-append}
use Rattle.std.proofs.lemmas.List.Elements.{All-append, All-cons, All-head, All-nil, All-tail}
use Rattle.std.proofs.lemmas.List.Sums.{fold-append}
use Rattle.pack_model.specs.Problem.{Parts}
use Rattle.cert_text.specs.declared.event.Event.{Event}
use Rattle.cert_text.specs.declared.event.Event.TheVariants as event
use Rattle.cert_text.specs.CertEvents.{tree_events}
use Rattle.cert_text.specs.Trees.{Marked, Plain, unmark}
use Rattle.bandwidth_bound.proofs.PriceFrames.{all_back, all_front}
use Rattle.cert_check.specs.Entries.{Entry, as_event, as_hole, in_full}
use Rattle.cert_check.specs.Holes.{Hole, HoleStands, hole_at, holes_in, holes_of_tree, holes_of_trees, told_holes}
use Rattle.cert_check.specs.Nodes.{Node, bound_leaf, fail_leaf, hole, inner_node, nodes_of, open_leaf, places_after_nodes}
use Rattle.cert_check.specs.Said.{Said, TreeSaid, and_entry, and_said, nothing_said, said_by, with_node, with_nodes}
use Rattle.cert_check.specs.Taken.{AllStandSaid, EachStandsSaid, goal_said}
use Rattle.cert_check.specs.Walk.{values_in}
use Rattle.cert_check.proofs.FillLaws.{EachHole, fill_stand, fill_stood, filled, filled_node, holes_append, holes_more}
use Rattle.cert_check.proofs.SaidLaws.{tree_said}
use Rattle.cert_check.proofs.Walks.{stand_first}

-- ---- what was told in full

-- a tree in full
abbrev pub tree_filled : TreeSaid → TreeSaid
tree_filled tree = record tree { nodes = filled tree.nodes }

-- all in full
abbrev pub said_filled : Said → Said
said_filled s = record s { tree = tree_filled s.tree; older = map tree_filled s.older }

-- the nodes of the tree that is being told
abbrev to_nodes : Said → List Node → Said
to_nodes s nodes = record s { tree = record s.tree { nodes = nodes } }

-- further nodes
filled_more : (s : Said) (n : Node)
    → with_nodes (filled_node n ++ []) (said_filled s) ≡ said_filled (with_node n s)
filled_more s n = ap (to_nodes (said_filled s)) (sym (flat_map-append filled_node s.tree.nodes (n ∷ [])))

module _ (best : Option ℕ) where
  event_filled : (s : Said) (e : Event) → and_said best (said_filled s) e ≡ said_filled (and_said best s e)
  event_filled s (event.Head kind) = refl
  event_filled s (event.FrameOf line) = refl
  event_filled s (event.LemmaOf sender value) = refl
  event_filled s event.Main = refl
  event_filled s (event.Node n) = filled_more s (inner_node n)
  event_filled s event.BoundLeaf = filled_more s bound_leaf
  event_filled s event.OpenLeaf = filled_more s open_leaf
  event_filled s (event.FailLeaf named) = filled_more s (fail_leaf named)
  event_filled s event.ShardMark = refl
  event_filled s event.JoinMark = refl
  event_filled s event.Finish = refl

  hole_filled : (s : Said) (t : Marked)
      → fold (and_entry best) (said_filled s) (map as_event (tree_events t))
      ≡ said_filled (with_node (hole (unmark t)) s)
  hole_filled s t =
      tree_said best t (said_filled s)
      ∙ ap (λ ns. with_nodes ns (said_filled s)) (sym (append-nil (nodes_of (unmark t))))
      ∙ filled_more s (hole (unmark t))

  full_from : (s : Said) (entries : List Entry)
      → fold (and_entry best) (said_filled s) (map as_event (in_full entries))
      ≡ said_filled (fold (and_entry best) s entries)
  full_from s [] = refl
  full_from s (as_event e ∷ entries) =
      ap (λ now. fold (and_entry best) now (map as_event (in_full entries))) (event_filled s e)
      ∙ full_from (and_said best s e) entries
  full_from s (as_hole t ∷ entries) =
      ap (fold (and_entry best) (said_filled s)) (map-append as_event (tree_events t) (in_full entries))
      ∙ fold-append (and_entry best) (said_filled s) (map as_event (tree_events t))
      (map as_event (in_full entries))
      ∙ ap (λ now. fold (and_entry best) now (map as_event (in_full entries))) (hole_filled s t)
      ∙ full_from (with_node (hole (unmark t)) s) entries

-- what the entries say in full
pub full_is : (problem : Parts) (best : Option ℕ) (entries : List Entry)
    → said_by problem best (map as_event (in_full entries)) ≡ said_filled (said_by problem best entries)
full_is problem best entries = full_from best (nothing_said problem) entries

-- ---- where it stands

module _ (problem : Parts) where
  -- the hole of a tree
  abbrev pub hole_in : TreeSaid → List ℕ × Plain → Hole
  hole_in tree h = record {
    aim = tree.aim;
    values = values_in tree.aim.range tree.values;
    place = h.0;
    tree = h.1;
  }

  each_of : (tree : TreeSaid) (hs : List (List ℕ × Plain))
      → All (HoleStands problem) (map (hole_in tree) hs) → EachHole (goal_said problem tree) hs
  each_of tree [] all = tt
  each_of tree (h ∷ hs) all = (
    All-head (HoleStands problem) (hole_in tree h) (map (hole_in tree) hs) all,
    each_of tree hs (All-tail (HoleStands problem) (hole_in tree h) (map (hole_in tree) hs) all),
  )

  of_each : (tree : TreeSaid) (hs : List (List ℕ × Plain)) → EachHole (goal_said problem tree) hs
      → All (HoleStands problem) (map (hole_in tree) hs)
  of_each tree [] each = All-nil (HoleStands problem)
  of_each tree (h ∷ hs) each =
      All-cons (HoleStands problem) (hole_in tree h) (map (hole_in tree) hs) each.0 (of_each tree hs each.1)

  -- the holes of a tree stand
  pub tree_holes : (tree : TreeSaid) (trees : List TreeSaid)
      → All (HoleStands problem) (holes_of_trees problem (tree ∷ trees))
      → EachHole (goal_said problem tree) (holes_in (goal_said problem tree) ([] ∷ []) tree.nodes)
  tree_holes tree trees all =
      each_of tree (holes_in (goal_said problem tree) ([] ∷ []) tree.nodes)
      (all_back (HoleStands problem) (holes_of_trees problem trees) (holes_of_tree problem tree) all)

  -- trees stand in full where they stand, and the trees of their holes do
  trees_fill : (trees : List TreeSaid) → EachStandsSaid problem trees
      → All (HoleStands problem) (holes_of_trees problem trees)
      → EachStandsSaid problem (map tree_filled trees)
  trees_fill [] each all = tt
  trees_fill (tree ∷ trees) each all = (
    record {
      next = each.0.next;
      nodes =
          fill_stand (goal_said problem tree) ([] ∷ []) tree.nodes each.0.nodes (tree_holes tree trees all);
    },
    trees_fill trees each.1
        (all_front (HoleStands problem) (holes_of_trees problem trees) (holes_of_tree problem tree) all),
  )

  trees_stood : (trees : List TreeSaid) → EachStandsSaid problem (map tree_filled trees)
      → EachStandsSaid problem trees × All (HoleStands problem) (holes_of_trees problem trees)
  trees_stood [] each = (tt, All-nil (HoleStands problem))
  trees_stood (tree ∷ trees) each =
      let here = fill_stood (goal_said problem tree) ([] ∷ []) tree.nodes each.0.nodes in
      let more = trees_stood trees each.1 in (
        (record { next = each.0.next; nodes = here.0 }, more.0),
        All-append (HoleStands problem) (holes_of_trees problem trees) (holes_of_tree problem tree) more.1
            (of_each tree (holes_in (goal_said problem tree) ([] ∷ []) tree.nodes) here.1),
      )

  -- all that was told
  pub said_fill : (s : Said) → AllStandSaid problem s → All (HoleStands problem) (told_holes problem s)
      → AllStandSaid problem (said_filled s)
  said_fill s all holes = trees_fill (s.tree ∷ s.older) all holes

  pub said_stood : (s : Said) → AllStandSaid problem (said_filled s)
      → AllStandSaid problem s × All (HoleStands problem) (told_holes problem s)
  said_stood s all = trees_stood (s.tree ∷ s.older) all

-- ---- one entry more

module _ (problem : Parts) where
  -- a tree without nodes has no holes
  pub none_begun : (tree : TreeSaid) (trees : List TreeSaid) → tree.nodes ≡ []
      → holes_of_trees problem (tree ∷ trees) ≡ holes_of_trees problem trees
  unfolding holes_in
  none_begun tree trees none =
      ap (λ ns. holes_of_trees problem trees
      ++ map (hole_in problem tree) (holes_in (goal_said problem tree) ([] ∷ []) ns)) none
      ∙ append-nil (holes_of_trees problem trees)

  -- the holes with one node more
  node_more : (s : Said) (n : Node) → ((p : List ℕ) → hole_at p n ≡ [])
      → told_holes problem (with_node n s) ≡ told_holes problem s
  node_more s n no_hole =
      ap (λ hs. holes_of_trees problem s.older ++ map (hole_in problem s.tree) hs)
      (holes_more (goal_said problem s.tree) ([] ∷ []) s.tree.nodes n no_hole)

  pub event_holes : (best : Option ℕ) (s : Said) (e : Event)
      → told_holes problem (and_said best s e) ≡ told_holes problem s
  event_holes best s (event.Head kind) = refl
  event_holes best s (event.FrameOf line) = refl
  event_holes best s (event.LemmaOf sender value) =
      none_begun (and_said best s (event.LemmaOf sender value)).tree (s.tree ∷ s.older) refl
  event_holes best s event.Main = none_begun (and_said best s event.Main).tree (s.tree ∷ s.older) refl
  event_holes best s (event.Node n) = node_more s (inner_node n) (λ p. refl)
  event_holes best s event.BoundLeaf = node_more s bound_leaf (λ p. refl)
  event_holes best s event.OpenLeaf = node_more s open_leaf (λ p. refl)
  event_holes best s (event.FailLeaf named) = node_more s (fail_leaf named) (λ p. refl)
  event_holes best s event.ShardMark = refl
  event_holes best s event.JoinMark = refl
  event_holes best s event.Finish = refl

  -- with one hole more
  pub hole_holes : (s : Said) (t : Plain)
      → told_holes problem (with_node (hole t) s)
      ≡ told_holes problem s ++ map (hole_in problem s.tree)
      (holes_in (goal_said problem s.tree)
      (places_after_nodes (goal_said problem s.tree) ([] ∷ []) s.tree.nodes) (hole t ∷ []))
  hole_holes s t =
      let goal = goal_said problem s.tree in
      let old = holes_in goal ([] ∷ []) s.tree.nodes in
      let new = holes_in goal (places_after_nodes goal ([] ∷ []) s.tree.nodes) (hole t ∷ []) in
      ap (λ hs. holes_of_trees problem s.older ++ map (hole_in problem s.tree) hs)
      (holes_append goal ([] ∷ []) s.tree.nodes (hole t ∷ []))
      ∙ ap (λ hs. holes_of_trees problem s.older ++ hs) (map-append (hole_in problem s.tree) old new)
      ∙ sym (append_assoc (holes_of_trees problem s.older) (map (hole_in problem s.tree) old)
      (map (hole_in problem s.tree) new))

  -- the holes so far stand where those after further entries do
  pub fewer_holes : (best : Option ℕ) (s : Said) (entries : List Entry)
      → All (HoleStands problem) (told_holes problem (fold (and_entry best) s entries))
      → All (HoleStands problem) (told_holes problem s)
  fewer_holes best s [] all = all
  fewer_holes best s (as_event e ∷ entries) all =
      subst (All (HoleStands problem)) (event_holes best s e)
      (fewer_holes best (and_said best s e) entries all)
  fewer_holes best s (as_hole t ∷ entries) all =
      all_front (HoleStands problem) (told_holes problem s) _
      (subst (All (HoleStands problem)) (hole_holes s (unmark t))
      (fewer_holes best (with_node (hole (unmark t)) s) entries all))

  -- what was told so far stands where it does after further entries
  pub node_fewer : (s : Said) (n : Node) → AllStandSaid problem (with_node n s) → AllStandSaid problem s
  node_fewer s n all = (
    record {
      next = all.0.next;
      nodes = stand_first (goal_said problem s.tree) ([] ∷ []) s.tree.nodes (n ∷ []) all.0.nodes;
    },
    all.1,
  )

  event_fewer : (best : Option ℕ) (s : Said) (e : Event) → AllStandSaid problem (and_said best s e)
      → AllStandSaid problem s
  event_fewer best s (event.Head kind) all = all
  event_fewer best s (event.FrameOf line) all = all
  event_fewer best s (event.LemmaOf sender value) all = all.1
  event_fewer best s event.Main all = all.1
  event_fewer best s (event.Node n) all = node_fewer s (inner_node n) all
  event_fewer best s event.BoundLeaf all = node_fewer s bound_leaf all
  event_fewer best s event.OpenLeaf all = node_fewer s open_leaf all
  event_fewer best s (event.FailLeaf named) all = node_fewer s (fail_leaf named) all
  event_fewer best s event.ShardMark all = all
  event_fewer best s event.JoinMark all = all
  event_fewer best s event.Finish all = all

  pub fewer_stand : (best : Option ℕ) (s : Said) (entries : List Entry)
      → AllStandSaid problem (fold (and_entry best) s entries) → AllStandSaid problem s
  fewer_stand best s [] all = all
  fewer_stand best s (as_event e ∷ entries) all =
      event_fewer best s e (fewer_stand best (and_said best s e) entries all)
  fewer_stand best s (as_hole t ∷ entries) all =
      node_fewer s (hole (unmark t)) (fewer_stand best (with_node (hole (unmark t)) s) entries all)
