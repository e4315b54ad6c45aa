-- The order in which a named frame is tried, and when the frames that are named are too many or out of order.
use Rattle.std.proofs.Common.{◌≡◌, ℕ, zero, suc, ◌+◌, ◌-◌, ◌<◌, ◌≤◌, Bool, true, false, cond, List, [], ◌∷◌, ◌++◌, length, filter, nat_eq, All, Contains, sym, ap, subst, ◌∙◌, arith, append-nil, length-append}
use Rattle.std.specs.Prelude.{not}
use Rattle.std.specs.List.{IsDistinct, range_with_len, list_any}
use Rattle.std.specs.List.Sorted.{IsStrictlyIncreasing}
use Rattle.std.proofs.lemmas.Bool.{eqb-true}
use Rattle.std.proofs.lemmas.List.{length-map}
use Rattle.std.proofs.lemmas.List.Elements.{All-contains, filter-append}
use Rattle.std.proofs.lemmas.List.FromFn.{length-range_with_len}
use Rattle.std.proofs.lemmas.Map.Steps.{length-le_from_distinct_below}
use Rattle.std.proofs.lemmas.Map.Views.{Contains-from_any}
use Rattle.busy_period.specs.declared.timed.Timed.{Timed}
use Rattle.busy_period.specs.Timed.{IsInRange}
use Rattle.busy_period.specs.Stage.{IsStage}
use Rattle.response_test.specs.declared.evidence.Evidence.{Evidence}
use Rattle.response_test.specs.Order.{others_of, remaining_of}
use Rattle.bandwidth_bound.specs.Failing.{AreRefuted, numbers_of, order_below}
use Rattle.bandwidth_bound.proofs.Final.{distinct_rising, order_stage}

-- a filter of some numbers is not longer
pub length-filter-le : (p : ℕ → Bool) (xs : List ℕ) → length (filter p xs) ≤ length xs
length-filter-le p [] = omega arith
length-filter-le p (x ∷ xs) = by (p x) (length-filter-le p xs)
  where
    by : (b : Bool) → length (filter p xs) ≤ length xs
        → length (cond b (x ∷ filter p xs) (filter p xs)) ≤ length (x ∷ xs)
    by true le = omega arith
    by false le = omega arith

-- one more number from zero
range_more : (a n : ℕ) → range_with_len a (n + 1) ≡ range_with_len a n ++ (a + n) ∷ []
range_more a zero = let e : a ≡ a + 0 = omega arith in ap (λ (j : ℕ). j ∷ []) e
range_more a (suc n) =
    let on : suc n + 1 ≡ suc (n + 1) = omega arith in
    let last : a + 1 + n ≡ a + suc n = omega arith in
    ap (range_with_len a) on
    ∙ ap (λ l. a ∷ l) (range_more (a + 1) n ∙ ap (λ j. range_with_len (a + 1) n ++ j ∷ []) last)

pub filter-range_more : (p : ℕ → Bool) (n : ℕ)
    → filter p (range_with_len 0 (n + 1)) ≡ filter p (range_with_len 0 n) ++ cond (p n) (n ∷ []) []
filter-range_more p n =
    let e : 0 + n ≡ n = omega arith in
    ap (filter p) (range_more 0 n ∙ ap (λ j. range_with_len 0 n ++ j ∷ []) e)
    ∙ filter-append p (range_with_len 0 n) (n ∷ [])

-- more numbers pass a test where there are more
filter-range-le : (p : ℕ → Bool) (a i n : ℕ) → i ≤ n
    → length (filter p (range_with_len a i)) ≤ length (filter p (range_with_len a n))
filter-range-le p a zero n le = omega arith
filter-range-le p a (suc i) zero le = absurd (omega arith)
filter-range-le p a (suc i) (suc n) le = by (p a) (filter-range-le p (a + 1) i n (omega arith))
  where
    by : (b : Bool)
        → length (filter p (range_with_len (a + 1) i)) ≤ length (filter p (range_with_len (a + 1) n))
        → length (cond b (a ∷ filter p (range_with_len (a + 1) i)) (filter p (range_with_len (a + 1) i)))
        ≤ length (cond b (a ∷ filter p (range_with_len (a + 1) n)) (filter p (range_with_len (a + 1) n)))
    by true rest = omega arith
    by false rest = rest

-- a number that passes leaves room for it
pub filter-range_room : (p : ℕ → Bool) (i n : ℕ) → i < n → p i ≡ true
    → length (filter p (range_with_len 0 i)) < length (filter p (range_with_len 0 n))
filter-range_room p i n lt passes =
    let whole : filter p (range_with_len 0 (i + 1)) ≡ filter p (range_with_len 0 i) ++ i ∷ [] =
    filter-range_more p i ∙ ap (λ b. filter p (range_with_len 0 i) ++ cond b (i ∷ []) []) passes in
    omega (
      arith,
      filter-range-le p 0 (i + 1) n (omega arith),
      ap length whole,
      length-append (filter p (range_with_len 0 i)) (i ∷ []),
    )

-- different numbers below a number are no more than it
pub few_below : (xs : List ℕ) (n : ℕ) → IsDistinct nat_eq xs → All (λ number. number < n) xs → length xs ≤ n
few_below xs n distinct low =
    length-le_from_distinct_below xs n distinct (λ q found.
    All-contains (λ number. number < n) xs q low (Contains-from_any (λ a b. eqb-true a b) q xs found))

-- the order has at most as many numbers as there are frames
pub length-order : (frames : List Timed) (members : List ℕ) (own : ℕ)
    → length frames ≤ 128 → All IsInRange frames
    → All (λ number. number < length frames) members → IsStrictlyIncreasing members → Contains members own
    → length (others_of own members) + 1 + length (remaining_of frames members) ≤ length frames
length-order frames members own few ranges there rises in' =
    let stage : IsStage frames (order_below frames members own) (length (others_of own members)) =
    order_stage frames members own few ranges there (distinct_rising members rises) in' in
    omega (
      arith,
      few_below (order_below frames members own) (length frames) stage.distinct stage.named,
      length-append (others_of own members) (own ∷ remaining_of frames members),
    )

-- and no more frames are refuted than there are
pub length-refuted : (frames : List Timed) (bit hyper : ℕ) (named : List (ℕ × Evidence))
    → AreRefuted frames bit hyper named → length named ≤ length frames
length-refuted frames bit hyper named all =
    let members : List ℕ = numbers_of named in
    omega (
      arith,
      few_below members (length frames) (distinct_rising members all.ascending) all.there,
      length-map named (λ (entry : ℕ × Evidence). entry.0),
    )

-- a number that is a member is not kept
pub remaining-skip : (members numbers : List ℕ) (number : ℕ) → list_any (nat_eq number) members ≡ true
    → numbers ≡ filter (λ k. not (list_any (nat_eq k) members)) (range_with_len 0 number)
    → numbers ≡ filter (λ k. not (list_any (nat_eq k) members)) (range_with_len 0 (number + 1))
remaining-skip members numbers number found so_far =
    let p : ℕ → Bool = λ k. not (list_any (nat_eq k) members) in
    let before : List ℕ = filter p (range_with_len 0 number) in
    let step : filter p (range_with_len 0 (number + 1)) ≡ before =
    filter-range_more p number ∙ ap (λ b. before ++ cond (not b) (number ∷ []) []) found
    ∙ append-nil before in
    so_far ∙ sym step

-- and one that isn't is
pub remaining-push : (members numbers : List ℕ) (number : ℕ) → list_any (nat_eq number) members ≡ false
    → numbers ≡ filter (λ k. not (list_any (nat_eq k) members)) (range_with_len 0 number)
    → numbers ++ number ∷ [] ≡ filter (λ k. not (list_any (nat_eq k) members)) (range_with_len 0 (number + 1))
remaining-push members numbers number absent so_far =
    let p : ℕ → Bool = λ k. not (list_any (nat_eq k) members) in
    let before : List ℕ = filter p (range_with_len 0 number) in
    let step : filter p (range_with_len 0 (number + 1)) ≡ before ++ number ∷ [] =
    filter-range_more p number ∙ ap (λ b. before ++ cond (not b) (number ∷ []) []) absent in
    ap (λ xs. xs ++ number ∷ []) so_far ∙ sym step

-- room for one more of the remaining frames
pub remaining-room : (frames : List Timed) (members numbers : List ℕ) (number : ℕ)
    → length frames ≤ 128 → number < length frames → list_any (nat_eq number) members ≡ false
    → numbers ≡ filter (λ k. not (list_any (nat_eq k) members)) (range_with_len 0 number)
    → length numbers < 128
remaining-room frames members numbers number few lt absent so_far =
    let p : ℕ → Bool = λ k. not (list_any (nat_eq k) members) in
    omega (
      arith,
      filter-range_room p number (length frames) lt (ap not absent),
      ap length so_far,
      length-filter-le p (range_with_len 0 (length frames)),
      length-range_with_len 0 (length frames),
    )

-- the place of the frame is what is left before the remaining ones
pub place-below : (members order rest : List ℕ) (own place : ℕ)
    → order ≡ others_of own members ++ own ∷ rest → place ≡ length order - length rest - 1
    → place ≡ length (others_of own members)
place-below members order rest own place is at =
    omega (arith, at, ap length is, length-append (others_of own members) (own ∷ rest))

-- the order has room
pub room-below : (frames : List Timed) (members rest : List ℕ) (own : ℕ)
    → length frames ≤ 128 → All IsInRange frames
    → All (λ number. number < length frames) members → IsStrictlyIncreasing members → Contains members own
    → rest ≡ remaining_of frames members → length (others_of own members) + 1 + length rest ≤ 128
room-below frames members rest own few ranges there rises in' is =
    omega (arith, few, length-order frames members own few ranges there rises in', ap length is)

-- and it is that of a stage
pub stage-below : (frames : List Timed) (members order rest : List ℕ) (own place : ℕ)
    → length frames ≤ 128 → All IsInRange frames
    → All (λ number. number < length frames) members → IsStrictlyIncreasing members → Contains members own
    → rest ≡ remaining_of frames members → order ≡ others_of own members ++ own ∷ rest
    → place ≡ length (others_of own members) → IsStage frames order place
stage-below frames members order rest own place few ranges there rises in' rest_is is at =
    let others : List ℕ = others_of own members in
    let same : order_below frames members own ≡ order = sym (is ∙ ap (λ xs. others ++ own ∷ xs) rest_is) in
    subst (λ n. IsStage frames order n) (sym at)
    (subst (λ xs. IsStage frames xs (length others)) same
    (order_stage frames members own few ranges there (distinct_rising members rises) in'))
