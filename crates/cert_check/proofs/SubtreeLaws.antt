-- The events of a subtree take a walk from a place to the next.
use Rattle.std.proofs.Common.{◌≡◌, ◌++◌, ◌∷◌, ◌∙◌, ℕ, [], List, Option, None, Some, ap, cond, false, map, refl, subst, sym}
use Rattle.std.proofs.lemmas.List.Sums.{fold-append}
use Rattle.pack_model.specs.Problem.{Parts}
use Rattle.matrix_rows.specs.declared.matrix.MatrixRow.{MatrixRow}
use Rattle.cert_text.specs.CertEvents.{tree_events}
use Rattle.cert_text.specs.Trees.{Marked, Plain, unmark}
use Rattle.grouping_tree.specs.Walk.{places_left}
use Rattle.bandwidth_bound.specs.Trees.{TreeStands}
use Rattle.cert_check.specs.declared.cert_walk.CertWalk.{CertWalk}
use Rattle.cert_check.specs.declared.placing.Placing.{Placing}
use Rattle.cert_check.specs.Entries.{Entry, as_event}
use Rattle.cert_check.specs.Laws.{SubtreeTaken}
use Rattle.cert_check.specs.Nodes.{NodesStand, TakesTree, nodes_of}
use Rattle.cert_check.specs.Places.{labels_at}
use Rattle.cert_check.specs.Said.{Said, and_entry, nothing_said, said_by, with_nodes}
use Rattle.cert_check.specs.Taken.{AllStandSaid, IsInTree, IsPlaced, Stores, falls, goal_said, load_in, way_in}
use Rattle.cert_check.specs.Walk.{goal_in, goal_of, items_of, start, way_of}
use Rattle.cert_check.proofs.SaidLaws.{tree_said}
use Rattle.cert_check.proofs.StoreLaws.{none_falls, some_falls}
use Rattle.cert_check.proofs.Walks.{stand_append, takes_further, takes_tree, walked}

-- a tree that was said at a place
module _ (problem : Parts) (rows : List MatrixRow) (before after : CertWalk) (s : Said) (tree : Plain)
    (stores : Stores problem rows before s) (now : Stores problem rows after (with_nodes (nodes_of tree) s))
    (stays : falls before ≡ false) (place : before.walk.over ≡ false) where
  -- the place, and those after it
  abbrev here : List ℕ
  here = labels_at before.walk.place

  abbrev rest : List (List ℕ)
  rest = places_left (items_of problem before.walk) 0 here

  in_tree : IsInTree problem before.walk s.values s.tree s.older
  in_tree = stores.in_tree (none_falls before stays).0

  same : goal_said problem s.tree ≡ goal_in problem before.walk
  same = λ i. goal_of problem (sym in_tree.used i) (sym in_tree.aim i)

  at : (way_of problem before.walk).places ≡ here ∷ rest
  at = ap (λ over. cond over [] (here ∷ rest)) place

  -- all that was said stands where the tree does
  all_stand : TreeStands (goal_said problem s.tree) here tree
      → AllStandSaid problem (with_nodes (nodes_of tree) s)
  all_stand stands = (
    record {
      next = in_tree.next;
      nodes =
          stand_append (goal_said problem s.tree) ([] ∷ []) s.tree.nodes (nodes_of tree)
          (in_tree.takes.stands (none_falls before stays).1)
          (subst (λ ps. NodesStand (goal_said problem s.tree) ps (nodes_of tree))
          (sym at ∙ in_tree.takes.places (none_falls before stays).1)
          (walked (goal_said problem s.tree) here rest tree stands).stand);
    },
    in_tree.stand,
  )

  -- where nothing falls, the walk took the tree
  taken : falls after ≡ false
      → TakesTree (goal_said problem s.tree) here rest (way_of problem before.walk) (way_of problem after.walk) tree
  taken well =
      takes_tree (goal_said problem s.tree) here rest (way_of problem before.walk) (way_of problem after.walk) tree
      (none_falls before stays).1 at
      (takes_further (goal_said problem s.tree) start (way_of problem before.walk) (way_of problem after.walk)
      s.tree.nodes (nodes_of tree) refl (none_falls before stays).1 in_tree.takes
      (now.in_tree (none_falls after well).0).takes)

  subtree : TakesTree (goal_in problem before.walk) here rest (way_in problem before) (way_in problem after) tree
  subtree =
      subst (λ goal. TakesTree goal here rest (way_in problem before) (way_in problem after) tree) same (record {
        fails = λ fell stands.
            some_falls problem rows after (with_nodes (nodes_of tree) s) now fell (all_stand stands);
        stands = λ well. (taken well).stands (none_falls after well).1;
        places = λ well. (taken well).places (none_falls after well).1;
        least = λ well. (taken well).least (none_falls after well).1;
      })

-- the load is that of the rows
pub load_same : (problem : Parts) (rows : List MatrixRow) (a b : Option Placing) → IsPlaced problem rows a
    → IsPlaced problem rows b → load_in a ≡ load_in b
load_same problem rows None None this other = refl
load_same problem rows None (Some b) this other = absurd (this other.placed)
load_same problem rows (Some a) None this other = absurd (other this.placed)
load_same problem rows (Some a) (Some b) this other = ap Some (this.load ∙ sym other.load)

-- what the events say
said_subtree : (problem : Parts) (best : Option ℕ) (entries : List Entry) (tree : Marked)
    → said_by problem best (entries ++ map as_event (tree_events tree))
    ≡ with_nodes (nodes_of (unmark tree)) (said_by problem best entries)
said_subtree problem best entries tree =
    fold-append (and_entry best) (nothing_said problem) entries (map as_event (tree_events tree))
    ∙ tree_said best tree (said_by problem best entries)

pub subtree_taken : SubtreeTaken
subtree_taken problem rows before after entries tree first now stays place =
    subtree problem rows before after (said_by problem (load_in before.placing) entries) (unmark tree) first
    (subst (Stores problem rows after)
    (ap (λ best. said_by problem best (entries ++ map as_event (tree_events tree)))
    (load_same problem rows after.placing before.placing now.knows.placed first.knows.placed)
    ∙ said_subtree problem (load_in before.placing) entries tree) now)
    stays place
