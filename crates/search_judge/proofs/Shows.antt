-- What is found shows what it says, and one thing is found.
use Rattle.std.proofs.Common.{◌≡◌, ℕ, ◌*◌, inl, inr, List, length, Option, Some, None, refl, sym, ap, ◌∙◌, arith}
use Rattle.std.proofs.lemmas.Bool.{cases_lt}
use Rattle.pack_model.specs.declared.item.Item.{Item}
use Rattle.pack_model.specs.Problem.{Parts, IsProblem}
use Rattle.response_test.specs.declared.evidence.Evidence.{Evidence}
use Rattle.response_test.specs.Order.{OrderPasses}
use Rattle.priority_assign.specs.Lowest.{IsLowestFirst}
use Rattle.priority_assign.proofs.OneOrder.{one_order}
use Rattle.priority_assign.proofs.Steps.{all_filled_passes}
use Rattle.class_frame.specs.Classes.{load_of}
use Rattle.class_frame.specs.Grouping.{AreFirstLabels}
use Rattle.class_frame.proofs.ClassFrames.{few_classes, nominal_bit}
use Rattle.grouping_tree.specs.Grouped.{items_in}
use Rattle.grouping_tree.specs.Partial.{IsPartial}
use Rattle.grouping_tree.proofs.Fronts.{full-legal}
use Rattle.bandwidth_bound.specs.Bounds.{Reaches}
use Rattle.bandwidth_bound.specs.Goals.{FailsIn, eighths}
use Rattle.bandwidth_bound.specs.Prices.{lower8_of}
use Rattle.bandwidth_bound.proofs.Extend.{first_labels, length-frames}
use Rattle.bandwidth_bound.proofs.Final.{all_items, frames_in_range}
use Rattle.bandwidth_bound.proofs.PriceBound.{bound_is_exact}
use Rattle.tree_search.specs.declared.finding.Finding.{Finding}
use Rattle.tree_search.specs.declared.finding.Finding.TheVariants.{Bounded, Failed, Complete, Parted}
use Rattle.tree_search.specs.Sound.{IsNoWorse, Shown}
use Rattle.search_judge.specs.Findings.{CanPass, Finds, FoundStands, HasOrder, IsStuck, frames_at}
use Rattle.search_judge.proofs.Named.{AreGiven, named_refuted, none_passes, one_stuck_set}

module _ (problem : Parts) (stands : IsProblem problem) where
  -- the classes of a partial grouping of all items as frames
  given_at : (p : List ℕ) → IsPartial problem.items p
      → AreGiven (frames_at problem p) problem.network.nominal_ticks
  given_at p partial =
      let front : AreFirstLabels problem.items p = first_labels problem.items p partial in
      record {
        few = omega (arith, length-frames problem problem.items p, few_classes problem p stands front);
        in_range = frames_in_range problem stands problem.items (all_items problem) p partial;
        bit_is = nominal_bit problem p (frames_at problem p) stands refl;
      }

  -- what is stuck fails
  stuck_fails : (range : Option ℕ) (p : List ℕ) (named : List (ℕ × Evidence))
      → IsPartial (items_in problem.items range) p → IsStuck problem range p named
      → FailsIn problem range p named
  stuck_fails None p named partial stuck =
      named_refuted (frames_at problem p) problem.network.nominal_ticks problem.hyper (given_at p partial) named
      stuck
  stuck_fails (Some sender) p named partial stuck = stuck

  -- a load that the bound doesn't reach is less
  no_worse : (best : Option ℕ) (load bound : ℕ) → bound ≡ 8 * load → ¬ (Reaches (eighths best) bound)
      → IsNoWorse best (Some load)
  no_worse None load bound is below = tt
  no_worse (Some old) load bound is below = elim (cases_lt old load) [
    | inl worse ↦ absurd (below (omega arith))
    | inr better ↦ better
  ]

  module _ (range : Option ℕ) (values : List ℕ) (best : Option ℕ) (p : List ℕ)
      (partial : IsPartial (items_in problem.items range) p) where
    abbrev items : List Item
    items = items_in problem.items range

    -- where each item has a label the bound is 8 times the load
    bound_at : length p ≡ length items → (load : ℕ) → load ≡ load_of problem items p
        → lower8_of problem values items p ≡ 8 * load
    bound_at full load is =
        bound_is_exact problem stands range values p (full-legal items p full partial)
        ∙ ap (λ n. 8 * n) (sym is)

    pub shows : (finding : Finding) → Finds problem range values best p finding
        → Shown items (lower8_of problem values items) (FailsIn problem range) best p finding
    shows Bounded found = found
    shows (Failed named) found = stuck_fails range p named partial found.1
    shows (Complete load order) found =
        let exact : lower8_of problem values items p ≡ 8 * load = bound_at found.2 load found.3 in
        (omega arith, no_worse best load (lower8_of problem values items p) exact found.0)
    shows Parted found = found.2

-- frames that are stuck have no order
stuck_cannot : (problem : Parts) → IsProblem problem → (range : Option ℕ) (p : List ℕ)
    (named : List (ℕ × Evidence)) → IsPartial (items_in problem.items range) p → IsStuck problem range p named
    → ¬ (CanPass problem range p)
stuck_cannot problem stands None p named partial stuck (order, passes) =
    none_passes (frames_at problem p) problem.network.nominal_ticks problem.hyper (given_at problem stands p partial)
    named stuck order passes
stuck_cannot problem stands (Some sender) p named partial stuck passes = stuck

-- the order of lowest-priority-first assignment lets each frame pass
pub lowest_passes : (problem : Parts) → IsProblem problem → (p order : List ℕ) → IsPartial problem.items p
    → IsLowestFirst (frames_at problem p) problem.network.nominal_ticks 0 order
    → OrderPasses (frames_at problem p) problem.network.nominal_ticks order
lowest_passes problem stands p order partial lowest =
    let given : AreGiven (frames_at problem p) problem.network.nominal_ticks = given_at problem stands p partial in
    all_filled_passes (frames_at problem p) problem.network.nominal_ticks order
    (record { in_range = given.in_range; some_bit = given.bit_is.some }) lowest.fills

-- a complete grouping that is found stands
pub complete_stands : (problem : Parts) → IsProblem problem → (values : List ℕ) (best : Option ℕ) (p : List ℕ)
    (load : ℕ) (order : List ℕ) → IsPartial problem.items p → Finds problem None values best p (Complete load order)
    → FoundStands problem (record { labels = p; order = order; load = load })
complete_stands problem stands values best p load order partial h = record {
  legal = full-legal problem.items p h.2 partial;
  lowest_first = h.1;
  passes = lowest_passes problem stands p order partial h.1;
  load_is = h.3;
}

-- an order that is found lets each frame pass
order_passes : (problem : Parts) → IsProblem problem → (range : Option ℕ) (p order : List ℕ)
    → IsPartial (items_in problem.items range) p → HasOrder problem range p order → CanPass problem range p
order_passes problem stands None p order partial lowest =
    (order, lowest_passes problem stands p order partial lowest)
order_passes problem stands (Some sender) p order partial none = tt

-- one set is stuck
one_stuck_at : (problem : Parts) → IsProblem problem → (range : Option ℕ) (p : List ℕ)
    (named other : List (ℕ × Evidence)) → IsPartial (items_in problem.items range) p
    → IsStuck problem range p named → IsStuck problem range p other → named ≡ other
one_stuck_at problem stands None p named other partial stuck stuck' =
    one_stuck_set (frames_at problem p) problem.network.nominal_ticks problem.hyper (given_at problem stands p partial)
    named other stuck stuck'
one_stuck_at problem stands (Some sender) p named other partial stuck stuck' = absurd stuck

-- one order is found
one_order_at : (problem : Parts) → IsProblem problem → (range : Option ℕ) (p order other : List ℕ)
    → IsPartial (items_in problem.items range) p → HasOrder problem range p order
    → HasOrder problem range p other → order ≡ other
one_order_at problem stands None p order other partial lowest lowest' =
    let given : AreGiven (frames_at problem p) problem.network.nominal_ticks = given_at problem stands p partial in
    one_order (frames_at problem p) problem.network.nominal_ticks
    (record { in_range = given.in_range; some_bit = given.bit_is.some }) order other lowest.fills lowest'.fills
one_order_at problem stands (Some sender) p order other partial none none' = none ∙ sym none'

module _ (problem : Parts) (stands : IsProblem problem) (range : Option ℕ) (values : List ℕ) (best : Option ℕ)
    (p : List ℕ) (partial : IsPartial (items_in problem.items range) p) where
  pub one_is_found : (one other : Finding) → Finds problem range values best p one
      → Finds problem range values best p other → one ≡ other
  one_is_found Bounded Bounded first second = refl
  one_is_found Bounded (Failed named) first second = absurd (second.0 first)
  one_is_found Bounded (Complete load order) first second = absurd (second.0 first)
  one_is_found Bounded Parted first second = absurd (second.0 first)
  one_is_found (Failed named) Bounded first second = absurd (first.0 second)
  one_is_found (Failed named) (Failed other) first second =
      ap Failed (one_stuck_at problem stands range p named other partial first.1 second.1)
  one_is_found (Failed named) (Complete load order) first second =
      absurd (stuck_cannot problem stands range p named partial first.1
      (order_passes problem stands range p order partial second.1))
  one_is_found (Failed named) Parted first second =
      absurd (stuck_cannot problem stands range p named partial first.1 second.1)
  one_is_found (Complete load order) Bounded first second = absurd (first.0 second)
  one_is_found (Complete load order) (Failed named) first second =
      absurd (stuck_cannot problem stands range p named partial second.1
      (order_passes problem stands range p order partial first.1))
  one_is_found (Complete load order) (Complete load' order') first second =
      let loads : load ≡ load' = first.3 ∙ sym second.3 in
      let orders : order ≡ order' = one_order_at problem stands range p order order' partial first.1 second.1 in
      λ i. Complete (loads i) (orders i)
  one_is_found (Complete load order) Parted first second =
      absurd (omega (arith, first.2, second.2))
  one_is_found Parted Bounded first second = absurd (first.0 second)
  one_is_found Parted (Failed named) first second =
      absurd (stuck_cannot problem stands range p named partial second.1 first.1)
  one_is_found Parted (Complete load order) first second =
      absurd (omega (arith, first.2, second.2))
  one_is_found Parted Parted first second = refl
