-- One node of a walk.
use Rattle.std.proofs.Common.{◌≡◌, ◌<◌, ◌≤◌, ◌+◌, ◌⊎◌, inl, inr, arith, filter, length, ℕ, Bool, true, false, List, [], ◌∷◌, ◌++◌, cond, refl, sym, ap, subst, ◌∙◌, true≢false, append-nil, IsTrue}
use Rattle.std.proofs.lemmas.Bool.{cases_lt, false≢true, le-ltb}
use Rattle.std.specs.List.{range_with_len}
use Rattle.pack_model.specs.declared.item.Item.{Item}
use Rattle.class_frame.specs.Grouping.{classes_of}
use Rattle.grouping_tree.specs.Partial.{keeps_legal, options_of}
use Rattle.grouping_tree.proofs.Puts.{some_option}
use Rattle.grouping_tree.proofs.Used.{small_range}
use Rattle.std.specs.Prelude.{◌↔◌, not}
use Rattle.pack_model.specs.Problem.{Parts}
use Rattle.grouping_tree.specs.Grouped.{items_in, range_of}
use Rattle.grouping_tree.specs.Walk.{places_left}
use Rattle.bandwidth_bound.specs.Trees.{Goal}
use Rattle.cert_check.specs.declared.walk.Aim.{Aim}
use Rattle.cert_check.specs.declared.walk.Walk.{Walk}
use Rattle.cert_check.specs.Nodes.{Node, NodesStand, Takes, bounds_at, bounds_of, lowered, places_of, places_after_nodes}
use Rattle.cert_check.specs.Places.{labels_at}
use Rattle.cert_check.specs.Walk.{IsWalk, Keeps, Settles, StandsNext, TakesOne, goal_in, goal_of, items_of, places_to_come, values_in, way_of}
use Rattle.cert_check.proofs.PlaceSteps.{place_legal}

-- the range of a walk
pub range_is : (problem : Parts) (walk : Walk) → IsWalk problem walk
    → range_of problem walk.place.partial ≡ items_of problem walk
range_is problem walk walks = walks.ready.place.belongs.range ∙ ap (items_in problem.items) walks.sender

-- where labels may be put next an item is left
pub is_left : (items : List Item) (p : List ℕ) → 0 < length (options_of items p) → length p < length items
is_left items p some = by (cases_lt (length p) (length items))
  where
    by : (length p < length items) ⊎ (length items ≤ length p) → length p < length items
    by (inl left) = left
    by (inr full) =
        let none : options_of items p ≡ [] =
        ap (λ b. cond b (filter (keeps_legal items p) (range_with_len 0 (classes_of p + 1))) [])
        (le-ltb (length p) (length items) full) in
        absurd (omega (arith, some, ap length none))

-- and where one is left some may be put
pub some_options : (problem : Parts) (walk : Walk) → IsWalk problem walk
    → length (labels_at walk.place) < length (items_of problem walk)
    → 0 < length (options_of (items_of problem walk) (labels_at walk.place))
some_options problem walk walks left =
    subst (λ items. 0 < length (options_of items (labels_at walk.place))) (range_is problem walk walks)
    (by (options_of (range_of problem walk.place.partial) (labels_at walk.place)) refl)
  where
    by : (options : List ℕ) → options_of (range_of problem walk.place.partial) (labels_at walk.place) ≡ options
        → 0 < length options
    by [] none =
        absurd (some_option (range_of problem walk.place.partial) (labels_at walk.place)
        (place_legal problem walk.place walks.ready.place)
        (omega (arith, left, ap length (range_is problem walk walks)))
        (small_range problem walk.place.partial walks.ready.place.belongs) none)
    by (option ∷ options) some = omega arith

-- what the tree of a walk is to show stays the same
pub same_goal : (problem : Parts) (before after : Walk) → Keeps before after → (P : Goal → Type 0)
    → P (goal_in problem after) → P (goal_in problem before)
same_goal problem before after keeps P holds =
    subst (λ values. P (goal_of problem (values_in before.aim.range values) before.aim)) keeps.values
    (subst (λ (aim : Aim). P (goal_of problem (values_in aim.range after.values.items) aim)) keeps.aim holds)

pub keeps_on : (before between after : Walk) → Keeps before between → Keeps between after → Keeps before after
keeps_on before between after first second =
    record { aim = second.aim ∙ first.aim; values = second.values ∙ first.values }

-- what takes a node from a place takes it from there before its labels are put
pub settled : (problem : Parts) (before between after : Walk) (node : Node) → Settles before between
    → TakesOne problem between after node → TakesOne problem before after node
settled problem before between after node s takes =
    same_goal problem before between s.keeps
    (λ goal. Takes goal (way_of problem before) (way_of problem after) (node ∷ []))
    (subst (λ way. Takes (goal_in problem between) way (way_of problem after) (node ∷ [])) same takes)
  where
    same : way_of problem between ≡ way_of problem before
    same = λ i. record {
      failed = s.failed i;
      places =
          cond (s.over i) [] (s.labels i ∷ places_left (items_in problem.items (s.keeps.aim i).range) 0 (s.labels i));
      least = s.least i;
    }

module _ (problem : Parts) (before after : Walk) (node : Node) where
  -- the places after the one of a walk
  abbrev rest : List (List ℕ)
  rest = places_left (items_of problem before) 0 (labels_at before.place)

  -- a node that doesn't stand fails the walk
  pub node_fails : ¬ StandsNext problem before node → after.failed ≡ true
      → TakesOne problem before after node
  unfolding NodesStand
  node_fails not_here failed = record {
    stays = λ e. failed;
    fails = λ e f stands. by before.over refl e stands;
    stands = λ e. absurd (true≢false (sym failed ∙ e));
    places = λ e. absurd (true≢false (sym failed ∙ e));
    least = λ e. absurd (true≢false (sym failed ∙ e));
  }
    where
      by : (over : Bool) → before.over ≡ over → before.failed ≡ false
          → NodesStand (goal_in problem before) (cond over [] (labels_at before.place ∷ rest)) (node ∷ []) → ⊥
      by true e f stands = stands
      by false e f stands = not_here ((f, e), stands.0)

  -- one that stands takes it on
  pub node_taken : StandsNext problem before node → after.failed ≡ before.failed
      → places_to_come problem after ≡ places_of (goal_in problem before) (labels_at before.place) node ++ rest
      → after.least ≡ lowered before.least (bounds_at (goal_in problem before) (labels_at before.place) node)
      → TakesOne problem before after node
  unfolding NodesStand places_after_nodes bounds_of
  node_taken here same places least = record {
    stays = λ e. same ∙ e;
    fails = λ e f. absurd (true≢false (sym f ∙ same ∙ e));
    stands = λ e. subst (λ ps. NodesStand (goal_in problem before) ps (node ∷ [])) (sym there) (here.1, tt);
    places = λ e. places ∙ ap (λ ps. places_after_nodes (goal_in problem before) ps (node ∷ [])) (sym there);
    least = λ e.
        least ∙ ap (lowered before.least)
        (sym (append-nil (bounds_at (goal_in problem before) (labels_at before.place) node)))
        ∙ ap (λ ps. lowered before.least (bounds_of (goal_in problem before) ps (node ∷ []))) (sym there);
  }
    where
      there : places_to_come problem before ≡ labels_at before.place ∷ rest
      there = ap (λ over. cond over [] (labels_at before.place ∷ rest)) here.0.1

-- what a test says where it is true, and where it is false
pub said : (b : Bool) (P : Type 0) → b ≡ true → (IsTrue b ↔ P) → P
said b P e iff = iff.0 e

pub denied : (b : Bool) (P : Type 0) → b ≡ false → (IsTrue b ↔ P) → ¬ P
denied b P e iff = λ p. false≢true (sym e ∙ iff.1 p)

-- the places to come after a leaf
pub passed : (went : Bool) (after there : List (List ℕ)) → (went ≡ true → after ≡ there)
    → (went ≡ false → after ≡ []) → cond (not went) [] there ≡ after
passed true after there next none = sym (next refl)
passed false after there next none = sym (none refl)
