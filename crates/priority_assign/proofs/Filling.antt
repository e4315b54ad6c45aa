-- Places that are filled from the lowest up.
use Rattle.std.proofs.Common.{◌≡◌, ℕ, ◌+◌, ◌<◌, ◌≤◌, inl, inr, List, [], ◌∷◌, length, get_or, nat_eq, All, Contains, sym, ◌∙◌, ap, subst, arith}
use Rattle.std.specs.Cmp.{nat_eq_equiv}
use Rattle.std.specs.List.{IsDistinct, remove, AllPairs}
use Rattle.std.specs.List.Sorted.{IsPermutation, IsStrictlyIncreasing}
use Rattle.std.proofs.lemmas.Bool.{cases_lt}
use Rattle.std.proofs.lemmas.List.{get_or_default}
use Rattle.std.proofs.lemmas.List.Elements.{All-contains, Contains-append_right, Contains-append_cases}
use Rattle.std.proofs.lemmas.List.Edits.{length-remove, get_or-remove_below, get_or-remove_above}
use Rattle.std.proofs.lemmas.List.Kept.{AllPairs-from_increasing}
use Rattle.std.proofs.lemmas.List.Sorted.{All-permutation, Contains-permutation, IsPermutation-remove, IsPermutation-sym}
use Rattle.std.proofs.lemmas.Map.Keys.{IsDistinct-tail, IsDistinct-IsPermutation}
use Rattle.busy_period.specs.declared.timed.Timed.{Timed}
use Rattle.busy_period.specs.Timed.{IsInRange}
use Rattle.busy_period.specs.Demand.{blocking_of}
use Rattle.busy_period.proofs.Sums.{one, head_apart}
use Rattle.response_test.specs.Frame.{PassesAgainst, PassesBlocked}
use Rattle.response_test.specs.Order.{others_of}
use Rattle.response_test.proofs.Order.{others_are, others_have, others_distinct, passes_under_fewer}
use Rattle.priority_assign.specs.Level.{IsLastPassing}
use Rattle.priority_assign.specs.Lowest.{CanTakeLowest, TakesLowest}

-- frames in range, and the time of a bit
pub record Given (frames : List Timed) (bit : ℕ) : Type 0 where
  pub in_range : All IsInRange frames
  pub some_bit : 1 ≤ bit

-- a list of numbers without repeats that name frames
pub record Named (frames : List Timed) (xs : List ℕ) : Type 0 where
  pub named : All (λ number. number < length frames) xs
  pub distinct : IsDistinct nat_eq xs

pub below : (frames : List Timed) (xs : List ℕ) (z : ℕ) → Named frames xs → Contains xs z → z < length frames
below frames xs z names in' = All-contains (λ number. number < length frames) xs z names.named in'

-- the list with one entry apart
apart_permutation : (xs : List ℕ) (index : ℕ) → index < length xs → IsPermutation xs (get_or xs index 0 ∷ remove xs index)
apart_permutation xs index inside =
    IsPermutation-remove xs index (get_or xs index 0) inside (get_or_default xs index 0 (get_or xs index 0) inside)

apart_distinct : (xs : List ℕ) (index : ℕ) → index < length xs → IsDistinct nat_eq xs
    → IsDistinct nat_eq (get_or xs index 0 ∷ remove xs index)
apart_distinct xs index inside distinct =
    IsDistinct-IsPermutation nat_eq nat_eq_equiv.symm xs (get_or xs index 0 ∷ remove xs index) (apart_permutation xs index inside) distinct

-- what is in the rest is another entry, and the other way round
rest_are : (xs : List ℕ) (index z : ℕ) → index < length xs → IsDistinct nat_eq xs → Contains (remove xs index) z
    → Contains (others_of (get_or xs index 0) xs) z
rest_are xs index z inside distinct in' =
    let own : ℕ = get_or xs index 0 in
    others_have own xs z
    (Contains-permutation (own ∷ remove xs index) xs z (IsPermutation-sym xs (own ∷ remove xs index) (apart_permutation xs index inside))
    (Contains-append_right (own ∷ []) (remove xs index) z in'))
    (head_apart own z (remove xs index) (apart_distinct xs index inside distinct) in')

rest_have : (xs : List ℕ) (index z : ℕ) → index < length xs → Contains (others_of (get_or xs index 0) xs) z
    → Contains (remove xs index) z
rest_have xs index z inside in' =
    let own : ℕ = get_or xs index 0 in
    let other : Contains xs z × (own ≡ z → ⊥) = others_are own xs z in' in
    elim (Contains-append_cases (own ∷ []) (remove xs index) z
    (Contains-permutation xs (own ∷ remove xs index) z (apart_permutation xs index inside) other.0)) [
      | inl here ↦ absurd (other.1 (one own z here))
      | inr there ↦ there
    ]

-- a frame can take the lowest place where it passes with the rest of the list higher
pub can_take_from_rest : (frames : List Timed) (bit : ℕ) (xs placed : List ℕ) (index : ℕ) → Given frames bit
    → Named frames xs → Named frames placed → index < length xs
    → PassesAgainst frames (get_or xs index 0) (remove xs index) placed bit
    → CanTakeLowest frames bit xs placed (get_or xs index 0)
can_take_from_rest frames bit xs placed index given names placed_names inside it =
    let own : ℕ = get_or xs index 0 in
    passes_under_fewer frames own (others_of own xs) placed (remove xs index) placed bit given.some_bit given.in_range
    (below frames xs own names (index, inside, get_or_default xs index own 0 inside))
    (others_distinct own xs names.distinct)
    (λ z in'. (below frames xs z names (others_are own xs z in').0, rest_have xs index z inside in'))
    (λ z in'. (below frames placed z placed_names in', inl in'))
    it

pub rest_from_can_take : (frames : List Timed) (bit : ℕ) (xs placed : List ℕ) (index : ℕ) → Given frames bit
    → Named frames xs → Named frames placed → index < length xs
    → CanTakeLowest frames bit xs placed (get_or xs index 0)
    → PassesAgainst frames (get_or xs index 0) (remove xs index) placed bit
rest_from_can_take frames bit xs placed index given names placed_names inside it =
    let own : ℕ = get_or xs index 0 in
    passes_under_fewer frames own (remove xs index) placed (others_of own xs) placed bit given.some_bit given.in_range
    (below frames xs own names (index, inside, get_or_default xs index own 0 inside))
    (IsDistinct-tail nat_eq own (remove xs index) (apart_distinct xs index inside names.distinct))
    (λ z in'. let there : Contains (others_of own xs) z = rest_are xs index z inside names.distinct in' in
    (below frames xs z names (others_are own xs z there).0, there))
    (λ z in'. (below frames placed z placed_names in', inl in'))
    it

-- whether a frame can take the lowest place does not depend on the order of the others
pub can_take_permuted : (frames : List Timed) (bit : ℕ) (xs ys placed : List ℕ) (own : ℕ) → Given frames bit
    → Named frames ys → Named frames placed → IsPermutation ys xs → Contains ys own
    → CanTakeLowest frames bit xs placed own → CanTakeLowest frames bit ys placed own
can_take_permuted frames bit xs ys placed own given names placed_names same in' it =
    passes_under_fewer frames own (others_of own ys) placed (others_of own xs) placed bit given.some_bit given.in_range
    (below frames ys own names in')
    (others_distinct own ys names.distinct)
    (λ z among. let other : Contains ys z × (own ≡ z → ⊥) = others_are own ys z among in
    (below frames ys z names other.0, others_have own xs z (Contains-permutation ys xs z same other.0) other.1))
    (λ z among. (below frames placed z placed_names among, inl among))
    it

pub named_permuted : (frames : List Timed) (xs ys : List ℕ) → IsPermutation xs ys → Named frames xs → Named frames ys
named_permuted frames xs ys same names =
    record {
      named = All-permutation (λ number. number < length frames) xs ys same names.named;
      distinct = IsDistinct-IsPermutation nat_eq nat_eq_equiv.symm xs ys same names.distinct;
    }

pub takes_permuted : (frames : List Timed) (bit : ℕ) (xs ys placed : List ℕ) (own : ℕ) → Given frames bit
    → Named frames xs → Named frames placed → IsPermutation xs ys
    → TakesLowest frames bit xs placed own → TakesLowest frames bit ys placed own
takes_permuted frames bit xs ys placed own given names placed_names same it =
    let back : IsPermutation ys xs = IsPermutation-sym xs ys same in
    let names' : Named frames ys = named_permuted frames xs ys same names in
    let there : Contains ys own = Contains-permutation xs ys own same it.without_place in
    record {
      without_place = there;
      can_take = can_take_permuted frames bit xs ys placed own given names' placed_names back there it.can_take;
      greatest = λ other in' more can.
          let in'' : Contains xs other = Contains-permutation ys xs other back in' in
          it.greatest other in'' more (can_take_permuted frames bit ys xs placed other given names placed_names same in'' can);
    }

-- of ascending numbers a later one is greater
later_is_greater : (xs : List ℕ) (i j : ℕ) → IsStrictlyIncreasing xs → i < length xs → j < length xs
    → get_or xs i 0 < get_or xs j 0 → i < j
later_is_greater xs i j ascending inside inside' more =
    elim (cases_lt i j) [
      | inl before ↦ before
      | inr not_before ↦ elim (cases_lt j i) [
        | inl after ↦ absurd (omega (arith, AllPairs-from_increasing xs ascending j i 0 after inside))
        | inr same ↦ let is : i ≡ j = omega arith in absurd (omega (arith, ap (λ k. get_or xs k 0) is))
      ]
    ]

-- the last index of a level whose frame passes has the frame of greatest number that can take the lowest place
pub takes_from_last_passing : (frames : List Timed) (bit blocked : ℕ) (xs placed : List ℕ) (index : ℕ) → Given frames bit
    → Named frames xs → Named frames placed → IsStrictlyIncreasing xs → blocked ≡ blocking_of frames placed
    → IsLastPassing frames xs blocked bit index → TakesLowest frames bit xs placed (get_or xs index 0)
takes_from_last_passing frames bit blocked xs placed index given names placed_names ascending is it =
    let own : ℕ = get_or xs index 0 in
    let P : ℕ → Type 0 = λ ticks. PassesBlocked frames own (remove xs index) ticks bit in
    record {
      without_place = (index, it.inside, get_or_default xs index own 0 it.inside);
      can_take = can_take_from_rest frames bit xs placed index given names placed_names it.inside (subst P is it.passes);
      greatest = λ other (j, inside, at) more can.
          let same : get_or xs j 0 ≡ other = get_or_default xs j 0 other inside ∙ at in
          let Q : ℕ → Type 0 = λ number. CanTakeLowest frames bit xs placed number in
          let R : ℕ → Type 0 = λ ticks. PassesBlocked frames (get_or xs j 0) (remove xs j) ticks bit in
          it.none_later j (later_is_greater xs index j ascending it.inside inside (omega (arith, same, more))) inside
          (subst R (sym is) (rest_from_can_take frames bit xs placed j given names placed_names inside (subst Q (sym same) can)));
    }

-- the rest of ascending numbers is ascending
pub rest_ascending : (xs : List ℕ) (index : ℕ) → index < length xs → IsStrictlyIncreasing xs
    → IsStrictlyIncreasing (remove xs index)
rest_ascending xs index inside ascending k within =
    let long : length (remove xs index) + 1 ≡ length xs = length-remove xs index inside in
    let pairs : AllPairs (λ x y. x < y) xs = AllPairs-from_increasing xs ascending in
    elim (cases_lt (k + 1) index) [
      | inl before ↦
          omega (
            arith,
            get_or-remove_below xs index 0 k (omega arith) inside,
            get_or-remove_below xs index 0 (k + 1) before inside,
            pairs k (k + 1) 0 (omega arith) (omega arith),
          )
      | inr not_before ↦ elim (cases_lt k index) [
        | inl across ↦
            omega (
              arith,
              get_or-remove_below xs index 0 k across inside,
              get_or-remove_above xs index 0 (k + 1) (omega arith) inside,
              pairs k (k + 1 + 1) 0 (omega arith) (omega arith),
            )
        | inr after ↦
            omega (
              arith,
              get_or-remove_above xs index 0 k (omega arith) inside,
              get_or-remove_above xs index 0 (k + 1) (omega arith) inside,
              pairs (k + 1) (k + 1 + 1) 0 (omega arith) (omega arith),
            )
      ]
    ]
