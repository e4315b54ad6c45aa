-- The laws of holes, entry by entry, over a walk that took them.
use Rattle.std.proofs.Common.{◌≡◌, ℕ, Bool, true, false, All, List, [], ◌∷◌, ◌++◌, cond, map, refl, sym, ap, subst, ◌∙◌}
use Rattle.std.proofs.lemmas.List.Sums.{fold-append}
use Rattle.pack_model.specs.Problem.{Parts}
use Rattle.matrix_rows.specs.declared.matrix.MatrixRow.{MatrixRow}
use Rattle.cert_text.specs.Trees.{Plain, unmark}
use Rattle.grouping_tree.specs.Walk.{places_left}
use Rattle.cert_check.specs.declared.cert_walk.CertWalk.{CertWalk}
use Rattle.cert_check.specs.Entries.{Entry, as_event, as_hole}
use Rattle.cert_check.specs.Holes.{HoleStands, hole_here, holes_in, told_holes}
use Rattle.cert_check.specs.Joined.{EventTaken, FailedStays, HoleTaken, HolesStay, StandsInFull}
use Rattle.cert_check.specs.Nodes.{NodesStand, hole, places_after_nodes}
use Rattle.cert_check.specs.Places.{labels_at}
use Rattle.cert_check.specs.Said.{Said, and_entry, nothing_said, said_by, with_node}
use Rattle.cert_check.specs.Taken.{AllStandSaid, IsInTree, Stores, Taken, falls, goal_said, load_in}
use Rattle.cert_check.specs.Walk.{items_of, places_to_come}
use Rattle.cert_check.proofs.HoleLaws.{event_holes, fewer_holes, fewer_stand, full_is, hole_holes, hole_in, node_fewer, said_fill, said_stood}
use Rattle.cert_check.proofs.SaidLaws.{said_more}
use Rattle.cert_check.proofs.StoreLaws.{none_falls, some_falls, tree_stands}
use Rattle.cert_check.proofs.SubtreeLaws.{load_same}
use Rattle.cert_check.proofs.Walks.{stand_further}

-- two walks over one matrix know the same load
same_load : (problem : Parts) (rows : List MatrixRow) (before after : CertWalk) (entries more : List Entry)
    → Taken before problem rows entries → Taken after problem rows more
    → load_in after.placing ≡ load_in before.placing
same_load problem rows before after entries more first now =
    load_same problem rows after.placing before.placing now.knows.placed first.knows.placed

pub event_taken : EventTaken
event_taken problem rows before after entries event first now =
    ap (λ best. told_holes problem (said_by problem best (entries ++ as_event event ∷ [])))
    (same_load problem rows before after entries (entries ++ as_event event ∷ []) first now)
    ∙ ap (told_holes problem) (sym (said_more problem (load_in before.placing) entries (as_event event)))
    ∙ event_holes problem (load_in before.placing) (said_by problem (load_in before.placing) entries) event

pub holes_stay : HolesStay
holes_stay problem rows before after entries more first now all =
    let best = load_in before.placing in
    fewer_holes problem best (said_by problem best entries) more
    (subst (λ s. All (HoleStands problem) (told_holes problem s))
    (ap (λ b. said_by problem b (entries ++ more))
    (same_load problem rows before after entries (entries ++ more) first now)
    ∙ fold-append (and_entry best) (nothing_said problem) entries more) all)

pub failed_stays : FailedStays
failed_stays problem rows walk entries more taken fell all =
    let best = load_in walk.placing in
    some_falls problem rows walk (said_by problem best entries) taken fell
    (fewer_stand problem best (said_by problem best entries) more
    (subst (AllStandSaid problem) (fold-append (and_entry best) (nothing_said problem) entries more) all))

pub stands_in_full : StandsInFull
stands_in_full problem rows walk entries taken =
    let best = load_in walk.placing in
    let s : Said = said_by problem best entries in (
      λ all. said_stood problem s (subst (AllStandSaid problem) (full_is problem best entries) all),
      λ both.
          subst (AllStandSaid problem) (sym (full_is problem best entries))
          (said_fill problem s both.0 both.1),
    )

-- ---- a hole that is passed over

module _ (problem : Parts) (rows : List MatrixRow) (before after : CertWalk) (s : Said) (t : Plain)
    (stores : Stores problem rows before s) (now : Stores problem rows after (with_node (hole t) s))
    (well : falls after ≡ false) where
  -- all stands
  all : AllStandSaid problem (with_node (hole t) s)
  all =
      tree_stands problem after.walk (with_node (hole t) s) (now.in_tree (none_falls after well).0)
      (none_falls after well).1

  -- it did before
  stays : falls before ≡ false
  stays = by (falls before) refl
    where
      by : (b : Bool) → falls before ≡ b → falls before ≡ false
      by true e = absurd (some_falls problem rows before s stores e (node_fewer problem s (hole t) all))
      by false e = e

  in_tree : IsInTree problem before.walk s.values s.tree s.older
  in_tree = stores.in_tree (none_falls before stays).0

  -- the places to come
  places_are : places_to_come problem before.walk
      ≡ places_after_nodes (goal_said problem s.tree) ([] ∷ []) s.tree.nodes
  places_are = in_tree.takes.places (none_falls before stays).1

  -- the hole has a place
  at_place : (ps : List (List ℕ)) → NodesStand (goal_said problem s.tree) ps (hole t ∷ [])
      → ps ≡ places_to_come problem before.walk
      → holes_in (goal_said problem s.tree) ps (hole t ∷ []) ≡ (labels_at before.walk.place, t) ∷ []
  unfolding NodesStand holes_in
  at_place [] stand same = absurd stand
  at_place (p ∷ ps) stand same = ap (λ q. (q, t) ∷ []) (by before.walk.over same)
    where
      by : (over : Bool) → p ∷ ps ≡ cond over [] (labels_at before.walk.place
          ∷ places_left (items_of problem before.walk) 0 (labels_at before.walk.place))
          → p ≡ labels_at before.walk.place
      by true e = absurd cc
      by false e = cc

  pub hole_more : told_holes problem (with_node (hole t) s)
      ≡ told_holes problem s ++ hole_here problem before t ∷ []
  hole_more =
      hole_holes problem s t
      ∙ ap (λ hs. told_holes problem s ++ map (hole_in problem s.tree) hs)
      (at_place (places_after_nodes (goal_said problem s.tree) ([] ∷ []) s.tree.nodes)
      (stand_further (goal_said problem s.tree) ([] ∷ []) s.tree.nodes (hole t ∷ []) all.0.nodes)
      (sym places_are))
      ∙ ap (λ h. told_holes problem s ++ h ∷ []) (λ i. record {
        aim = sym in_tree.aim i;
        values = sym in_tree.used i;
        place = labels_at before.walk.place;
        tree = t;
      })

pub hole_taken : HoleTaken
hole_taken problem rows before after entries tree first now well =
    let best = load_in before.placing in
    let said : said_by problem (load_in after.placing) (entries ++ as_hole tree ∷ [])
    ≡ with_node (hole (unmark tree)) (said_by problem best entries) =
    ap (λ b. said_by problem b (entries ++ as_hole tree ∷ []))
    (same_load problem rows before after entries (entries ++ as_hole tree ∷ []) first now)
    ∙ sym (said_more problem best entries (as_hole tree)) in
    ap (told_holes problem) said
    ∙ hole_more problem rows before after (said_by problem best entries) (unmark tree) first
    (subst (Stores problem rows after) said now) well
