-- What the tests of stages that are written out say.
use Rattle.std.proofs.Common.{◌≡◌, ℕ, ◌<◌, Bool, true, false, not, ◌&&◌, IsTrue, List, [], ◌∷◌, length, nat_eq, nat_le, nat_lt, All, arith}
use Rattle.std.specs.List.{IsDistinct, list_all}
use Rattle.std.proofs.lemmas.Bool.{and_parts, leb-true, ltb-true, not-true}
use Rattle.std.proofs.lemmas.Grind.{common_steps}
use Rattle.std.proofs.lemmas.List.Elements.{All-weaker, recursion_from_All}
use Rattle.std.proofs.lemmas.List.Sums.{AllPass-from_list_all}
use Rattle.std.proofs.lemmas.Map.Keys.{IsDistinct-cons}
use Rattle.busy_period.specs.declared.timed.Timed.{Timed}
use Rattle.busy_period.specs.Timed.{IsInRange}
use Rattle.busy_period.specs.Stage.{IsStage}
use Rattle.busy_period.specs.Checked.{is_in_range, are_distinct, is_stage}

-- a frame that passes the test is in range
pub in_range_from_test : (frame : Timed) → is_in_range frame ≡ true → IsInRange frame
in_range_from_test frame it =
    record {
      some_period = grind (arith, common_steps);
      period = grind (arith, common_steps);
      jitter = grind (arith, common_steps);
      some_ticks = grind (arith, common_steps);
      ticks = grind (arith, common_steps);
      some_deadline = grind (arith, common_steps);
      deadline = grind (arith, common_steps);
    }

distinct_from_test : (xs : List ℕ) → are_distinct xs ≡ true → IsDistinct nat_eq xs
unfolding IsDistinct
distinct_from_test [] it = tt
distinct_from_test (x ∷ xs) it =
    let parts = and_parts (list_all (λ y. not (nat_eq x y)) xs) (are_distinct xs) it in
    let apart : All (λ y. nat_eq x y ≡ false) xs =
    All-weaker (λ y. not (nat_eq x y) ≡ true) (λ y. nat_eq x y ≡ false) (λ y. not-true (nat_eq x y)) xs
    (AllPass-from_list_all (λ y. not (nat_eq x y)) xs parts.0) in
    IsDistinct-cons nat_eq x xs (recursion_from_All (λ y. nat_eq x y ≡ false) xs apart)
    (distinct_from_test xs parts.1)

-- a stage that passes the test is one
pub stage_from_test : (frames : List Timed) (order : List ℕ) (place : ℕ)
    → IsTrue (is_stage frames order place)
    → IsStage frames order place
stage_from_test frames order place it =
    let few : Bool = nat_le (length frames) 128 in
    let in_range : Bool = list_all is_in_range frames in
    let named : Bool = list_all (λ number. nat_lt number (length frames)) order in
    let distinct : Bool = are_distinct order in
    let inside : Bool = nat_lt place (length order) in
    let inside_parts = and_parts (few && in_range && named && distinct) inside it in
    let distinct_parts = and_parts (few && in_range && named) distinct inside_parts.0 in
    let named_parts = and_parts (few && in_range) named distinct_parts.0 in
    let few_parts = and_parts few in_range named_parts.0 in
    record {
      few = leb-true (length frames) 128 few_parts.0;
      in_range =
          All-weaker (λ frame. is_in_range frame ≡ true) IsInRange in_range_from_test frames
          (AllPass-from_list_all is_in_range frames few_parts.1);
      named =
          All-weaker (λ number. nat_lt number (length frames) ≡ true) (λ number. number < length frames)
          (λ number. ltb-true number (length frames)) order
          (AllPass-from_list_all (λ number. nat_lt number (length frames)) order named_parts.1);
      distinct = distinct_from_test order distinct_parts.1;
      inside = ltb-true place (length order) inside_parts.1;
    }
