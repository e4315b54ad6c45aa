-- No order passes a failing set: the lowest of its members has the others of it above.
use Rattle.std.proofs.Common.{◌≡◌, ℕ, ◌+◌, ◌-◌, ◌<◌, ◌≤◌, ◌⊎◌, inl, inr, Bool, true, false, not, List, length, take, drop, get_or, nat_eq, All, Contains, refl, sym, ◌∙◌, ap, subst, arith, length-take, length-drop}
use Rattle.std.specs.Cmp.{nat_eq_equiv}
use Rattle.std.specs.List.{IsDistinct, filter, list_any, range_with_len}
use Rattle.std.proofs.lemmas.Bool.{cases_lt, eqb-true, eq-eqb}
use Rattle.std.proofs.lemmas.List.{get_or-take, get_or-drop, get_or_default}
use Rattle.std.proofs.lemmas.List.Elements.{All-contains, All-filter, All-contains_itself, Contains-get_or, filter_passes}
use Rattle.std.proofs.lemmas.List.FromFn.{length-range_with_len, get_or-range_with_len}
use Rattle.std.proofs.lemmas.List.Kept.{AllPairs-filter}
use Rattle.std.proofs.lemmas.Map.Keys.{apart_from_distinct, IsDistinct-from_apart}
use Rattle.std.proofs.lemmas.Map.Views.{Contains-from_any, list_any-from_Contains}
use Rattle.pack_model.proofs.PlacedLaws.{Contains-filter}
use Rattle.busy_period.specs.declared.timed.Timed.{Timed}
use Rattle.busy_period.specs.Timed.{IsInRange, none_frame, frame_at}
use Rattle.busy_period.specs.Harder.{IsHarder, StaysOrMovesUp}
use Rattle.busy_period.proofs.Least.{last_below}
use Rattle.busy_period.proofs.Sums.{differ}
use Rattle.response_test.specs.Frame.{PassesAgainst}
use Rattle.response_test.specs.Order.{NamesEachOnce, OrderPasses, others_of, remaining_of, FailSet}
use Rattle.response_test.proofs.Growth.{passes_before_growth}

-- a number is among some, or it is not
pub member_decided : (members : List ℕ) (number : ℕ) → Contains members number ⊎ (¬ (Contains members number))
member_decided members number =
    elim (list_any (nat_eq number) members) as (λ b. list_any (nat_eq number) members ≡ b → Contains members number ⊎ (¬ (Contains members number))) [
      | true ↦ λ found. inl (Contains-from_any (λ a b. eqb-true a b) number members found)
      | false ↦ λ absent. inr (λ in'. let found = list_any-from_Contains nat_eq_equiv number members in' in cc)
    ] refl

-- a filter keeps nothing else, and what passes
Contains-from_filter : (p : ℕ → Bool) (xs : List ℕ) (x : ℕ) → Contains (filter p xs) x → Contains xs x × (p x ≡ true)
Contains-from_filter p xs x in' = (
  All-contains (Contains xs) (filter p xs) x (All-filter p (Contains xs) xs (All-contains_itself xs)) in',
  All-contains (λ y. p y ≡ true) (filter p xs) x (filter_passes p xs) in',
)

-- a filter of numbers without repeats has none
IsDistinct-filter : (p : ℕ → Bool) (xs : List ℕ) → IsDistinct nat_eq xs → IsDistinct nat_eq (filter p xs)
IsDistinct-filter p xs distinct =
    IsDistinct-from_apart nat_eq (filter p xs)
    (AllPairs-filter (λ x y. nat_eq x y ≡ false) p xs (λ i j d below inside. apart_from_distinct nat_eq xs i j d distinct below inside))

-- the other ones of some are those of them that differ from it
pub others_are : (own : ℕ) (members : List ℕ) (z : ℕ) → Contains (others_of own members) z → Contains members z × (own ≡ z → ⊥)
others_are own members z in' =
    let both = Contains-from_filter (λ number. not (nat_eq own number)) members z in' in
    (both.0, λ same. let is : nat_eq own z ≡ true = eq-eqb own z same in let no : not (nat_eq own z) ≡ true = both.1 in cc (ap not is))

pub others_have : (own : ℕ) (members : List ℕ) (z : ℕ) → Contains members z → (own ≡ z → ⊥) → Contains (others_of own members) z
others_have own members z in' apart =
    Contains-filter (λ number. not (nat_eq own number)) members z in' (ap not (differ own z apart))

pub others_distinct : (own : ℕ) (members : List ℕ) → IsDistinct nat_eq members → IsDistinct nat_eq (others_of own members)
others_distinct own members = IsDistinct-filter (λ number. not (nat_eq own number)) members

-- the remaining frames are those that are not among some
pub remaining_are : (frames : List Timed) (members : List ℕ) (z : ℕ) → Contains (remaining_of frames members) z
    → (z < length frames) × (¬ (Contains members z))
remaining_are frames members z in' =
    let p : ℕ → Bool = λ number. not (list_any (nat_eq number) members) in
    let both = Contains-from_filter p (range_with_len 0 (length frames)) z in' in
    let k : ℕ = both.0.0 in
    let inside : k < length frames = omega (arith, both.0.1, length-range_with_len 0 (length frames)) in (
      omega (arith, both.0.2, get_or-range_with_len 0 (length frames) k z inside),
      λ member. let is : list_any (nat_eq z) members ≡ true = list_any-from_Contains nat_eq_equiv z members member in
          let no : not (list_any (nat_eq z) members) ≡ true = both.1 in cc (ap not is),
    )

pub remaining_have : (frames : List Timed) (members : List ℕ) (z : ℕ) → z < length frames → (¬ (Contains members z))
    → Contains (remaining_of frames members) z
remaining_have frames members z inside absent =
    let p : ℕ → Bool = λ number. not (list_any (nat_eq number) members) in
    let there : Contains (range_with_len 0 (length frames)) z =
    (z, omega (arith, length-range_with_len 0 (length frames)), omega (arith, get_or-range_with_len 0 (length frames) z z inside)) in
    Contains-filter p (range_with_len 0 (length frames)) z there
    (elim (list_any (nat_eq z) members) as (λ b. list_any (nat_eq z) members ≡ b → not b ≡ true) [
      | true ↦ λ found. absurd (absent (Contains-from_any (λ a b. eqb-true a b) z members found))
      | false ↦ λ _. refl
    ] refl)

-- a number of an order stands above a place, at it, or below it
pub above_at_or_below : (order : List ℕ) (place z : ℕ) → Contains order z
    → Contains (take place order) z ⊎ ((get_or order place 0 ≡ z) ⊎ Contains (drop (place + 1) order) z)
above_at_or_below order place z (k, inside, is) =
    elim (cases_lt k place) [
      | inl above ↦ inl (k, omega (arith, length-take place order), get_or-take place order k z above ∙ is)
      | inr not_above ↦ elim (cases_lt place k) [
        | inl below ↦ inr (inr (
          k - (place + 1),
          omega (arith, length-drop (place + 1) order),
          get_or-drop (place + 1) order (k - (place + 1)) z
              ∙ (let same : place + 1 + (k - (place + 1)) ≡ k = omega arith in ap (λ i. get_or order i z) same) ∙ is,
        ))
        | inr not_below ↦
            let same : place ≡ k = omega arith in
            inr (inl (get_or_default order place 0 z (omega arith) ∙ ap (λ i. get_or order i z) same ∙ is))
      ]
    ]

-- a frame of a list in range is as hard as itself
pub as_hard : (frames : List Timed) (number : ℕ) → All IsInRange frames → number < length frames
    → IsHarder (frame_at frames number) (frame_at frames number)
as_hard frames number ranges inside =
    let range : IsInRange (frame_at frames number) = ranges number none_frame inside in
    record {
      some_period = range.some_period;
      period = omega arith;
      jitter = omega arith;
      ticks = omega arith;
      deadline = omega arith;
    }

-- a frame that passes under more higher frames, where the lower ones stay or move up, passes under fewer
pub passes_under_fewer : (frames : List Timed) (own : ℕ) (higher lower higher' lower' : List ℕ) (bit : ℕ)
    → 1 ≤ bit → All IsInRange frames → own < length frames
    → IsDistinct nat_eq higher
    → ((z : ℕ) → Contains higher z → (z < length frames) × Contains higher' z)
    → ((z : ℕ) → Contains lower z → (z < length frames) × StaysOrMovesUp higher higher' lower' z)
    → PassesAgainst frames own higher' lower' bit → PassesAgainst frames own higher lower bit
passes_under_fewer frames own higher lower higher' lower' bit some ranges inside distinct more moved =
    passes_before_growth frames frames own higher lower higher' lower' bit some (as_hard frames own ranges inside) (record {
      distinct = distinct;
      stay_higher = λ z in'. (more z in').1;
      stay_or_move_up = λ z in'. (moved z in').1;
      higher_harder = λ z in'. as_hard frames z ranges (more z in').0;
      lower_harder = λ z in'. as_hard frames z ranges (moved z in').0;
    })

-- the last place of an order that has a member of a failing set
record Lowest (members order : List ℕ) : Type 0 where
  pub place : ℕ
  pub inside : place < length order
  pub member : Contains members (get_or order place 0)
  pub last : (k : ℕ) → place < k → k < length order → ¬ (Contains members (get_or order k 0))

-- an order that names some member has such a place
lowest_of : (members order : List ℕ) (z : ℕ) → Contains members z → Contains order z → Lowest members order
lowest_of members order z member (k, inside, is) =
    elim (last_below (λ i. Contains members (get_or order i 0)) (λ i. member_decided members (get_or order i 0)) (length order)) [
      | inl found ↦ record { place = found.0; inside = found.1; member = found.2; last = found.3 }
      | inr none ↦ absurd (none k inside (subst (Contains members) (sym (get_or_default order k 0 z inside ∙ is)) member))
    ]

-- no order of all frames passes where some frames are a failing set
pub no_order_passes : (frames : List Timed) (bit : ℕ) (members order : List ℕ) → 1 ≤ bit → All IsInRange frames
    → FailSet frames bit members → ¬ (OrderPasses frames bit order)
no_order_passes frames bit members order some ranges failing it =
    let names : NamesEachOnce frames order = it.names_each_once in
    let first : ℕ = get_or members 0 0 in
    let first_in : Contains members first = Contains-get_or members 0 0 failing.some in
    let below : (z : ℕ) → Contains members z → z < length frames = λ z in'. All-contains (λ n. n < length frames) members z failing.named in' in
    let low : Lowest members order = lowest_of members order first first_in (names.each first (below first first_in)) in
    let own : ℕ = get_or order low.place 0 in
    let higher : List ℕ = take low.place order in
    let lower : List ℕ = drop (low.place + 1) order in
    let not_below : (z : ℕ) → Contains members z → ¬ (Contains lower z) = λ z in' (k, inside, is).
    low.last (low.place + 1 + k) (omega arith) (omega (arith, inside, length-drop (low.place + 1) order))
    (subst (Contains members) (sym ((sym (get_or-drop (low.place + 1) order k 0)) ∙ get_or_default lower k 0 z inside ∙ is)) in') in
    let more : (z : ℕ) → Contains (others_of own members) z → (z < length frames) × Contains higher z = λ z in'.
    let other : Contains members z × (own ≡ z → ⊥) = others_are own members z in' in (
      below z other.0,
      elim (above_at_or_below order low.place z (names.each z (below z other.0))) [
        | inl above ↦ above
        | inr rest ↦ elim rest [ inl here ↦ absurd (other.1 here) | inr under ↦ absurd (not_below z other.0 under) ]
      ],
    ) in
    let moved : (z : ℕ) → Contains (remaining_of frames members) z
    → (z < length frames) × StaysOrMovesUp (others_of own members) higher lower z = λ z in'.
    let other : (z < length frames) × (¬ (Contains members z)) = remaining_are frames members z in' in (
      other.0,
      elim (above_at_or_below order low.place z (names.each z other.0)) [
        | inl above ↦ inr (λ among. other.1 (others_are own members z among).0, above)
        | inr rest ↦ elim rest [
          | inl here ↦ absurd (other.1 (subst (Contains members) here low.member))
          | inr under ↦ inl under
        ]
      ],
    ) in
    failing.fails own low.member
    (passes_under_fewer frames own (others_of own members) (remaining_of frames members) higher lower bit some ranges
    (below own low.member) (others_distinct own members failing.distinct) more moved (it.passes low.place low.inside))
