-- There is one order of lowest-priority-first assignment in which each frame has a place, and else one set of
-- frames without one.
use Rattle.std.proofs.Common.{◌≡◌, ℕ, ◌+◌, ◌-◌, ◌<◌, ◌≤◌, inl, inr, suc, zero, List, [], ◌∷◌, ◌++◌, length, take, drop, get_or, Contains, refl, sym, ◌∙◌, ap, subst, arith, take-append-drop}
use Rattle.std.specs.Cmp.{nat_eq_equiv}
use Rattle.std.specs.List.Sorted.{IsStrictlyIncreasing}
use Rattle.std.proofs.lemmas.Bool.{cases_lt, eqb-true}
use Rattle.std.proofs.lemmas.List.{drop_all, drop_more}
use Rattle.std.proofs.lemmas.List.Elements.{All-contains, Contains-append_cases}
use Rattle.std.proofs.lemmas.List.Kept.{AllPairs-from_increasing}
use Rattle.std.proofs.lemmas.Map.Views.{Contains-from_any, list_any-from_Contains}
use Rattle.std.proofs.lemmas.Map.Steps.{length-le_from_distinct_below, le-length_from_below}
use Rattle.busy_period.specs.declared.timed.Timed.{Timed}
use Rattle.response_test.specs.Order.{NamesEachOnce, others_of}
use Rattle.response_test.proofs.Order.{others_are, others_distinct, others_have, passes_under_fewer}
use Rattle.priority_assign.specs.Lowest.{CanTakeLowest, FillsLowestFirst, IsLowestFirst, TakesLowest}
use Rattle.priority_assign.proofs.Filling.{Given, below}
use Rattle.priority_assign.proofs.Steps.{back_named, front_and_back, front_named}

-- what is in a list but not its first is in the rest
in_tail : (y z : ℕ) (ys : List ℕ) → Contains (y ∷ ys) z → (y ≡ z → ⊥) → Contains ys z
in_tail y z ys (zero, inside, at) apart = absurd (apart at)
in_tail y z ys (suc k, inside, at) apart = (k, omega arith, at)

-- what is in the rest of a rising list is greater than its first
head_least : (x z : ℕ) (xs : List ℕ) → IsStrictlyIncreasing (x ∷ xs) → Contains xs z → x < z
head_least x z xs rises (k, inside, at) =
    let first : x < get_or xs k z =
    AllPairs-from_increasing (x ∷ xs) rises 0 (suc k) z (omega arith) (omega arith) in
    omega (arith, first, at)

-- and so is what is in the list but not its first
head_le : (x z : ℕ) (xs : List ℕ) → IsStrictlyIncreasing (x ∷ xs) → Contains (x ∷ xs) z → x ≤ z
head_le x z xs rises (zero, inside, at) = omega (arith, at)
head_le x z xs rises (suc k, inside, at) = omega (arith, head_least x z xs rises (k, omega arith, at))

tail_rises : (x : ℕ) (xs : List ℕ) → IsStrictlyIncreasing (x ∷ xs) → IsStrictlyIncreasing xs
tail_rises x xs rises k inside =
    let next : suc k + 1 ≡ suc (k + 1) = omega arith in
    let more : get_or xs k 0 < get_or (x ∷ xs) (suc k + 1) 0 = rises (suc k) (omega arith) in
    omega (arith, more, ap (λ n. get_or (x ∷ xs) n 0) next)

-- rising lists of the same numbers are one
one_rising : (xs ys : List ℕ) → IsStrictlyIncreasing xs → IsStrictlyIncreasing ys
    → ((z : ℕ) → Contains xs z → Contains ys z) → ((z : ℕ) → Contains ys z → Contains xs z) → xs ≡ ys
one_rising [] [] rises rises' there back = refl
one_rising [] (y ∷ ys) rises rises' there back =
    let none : Contains [] y = back y (0, omega arith, refl) in absurd (omega (arith, none.1))
one_rising (x ∷ xs) [] rises rises' there back =
    let none : Contains [] x = there x (0, omega arith, refl) in absurd (omega (arith, none.1))
one_rising (x ∷ xs) (y ∷ ys) rises rises' there back =
    let first : x ≡ y = omega (
      arith,
      head_le x y xs rises (back y (0, omega arith, refl)),
      head_le y x ys rises' (there x (0, omega arith, refl)),
    ) in
    let rest : xs ≡ ys = one_rising xs ys (tail_rises x xs rises) (tail_rises y ys rises')
    (λ z in'. in_tail y z ys (there z (elsewhere x z xs in'))
    (λ same. omega (arith, head_least x z xs rises in', first, same)))
    (λ z in'. in_tail x z xs (back z (elsewhere y z ys in'))
    (λ same. omega (arith, head_least y z ys rises' in', first, same))) in
    ap (λ n. n ∷ xs) first ∙ ap (λ l. y ∷ l) rest
  where
    elsewhere : (w z : ℕ) (ws : List ℕ) → Contains ws z → Contains (w ∷ ws) z
    elsewhere w z ws (k, inside, at) = (suc k, omega arith, at)

module _ (frames : List Timed) where
  -- an order that names each frame once has as many places as there are frames
  pub length-names : (order : List ℕ) → NamesEachOnce frames order → length order ≡ length frames
  length-names order names =
      let most = length-le_from_distinct_below order (length frames) names.distinct
      (λ q found. All-contains (λ n. n < length frames) order q names.named
      (Contains-from_any (λ a b. eqb-true a b) q order found)) in
      let least = le-length_from_below order (length frames)
      (λ q low. list_any-from_Contains nat_eq_equiv q order (names.each q low)) in
      omega arith

  -- two orders with the same frames from a place on have the same frames before it
  same_front : (x y : List ℕ) (n z : ℕ) → NamesEachOnce frames x → NamesEachOnce frames y
      → drop n x ≡ drop n y
      → Contains (take n x) z → Contains (take n y) z
  same_front x y n z names names' same among =
      let inside : z < length frames = below frames (take n x) z (front_named frames x n names) among in
      let there : Contains (take n y ++ drop n y) z = subst (λ l. Contains l z) (sym (take-append-drop n y))
      (names'.each z inside) in
      elim (Contains-append_cases (take n y) (drop n y) z there) [
        | inl front ↦ front
        | inr back ↦ absurd (front_and_back frames x n z names among
            (subst (λ l. Contains l z) (sym same) back))
      ]

  module _ (bit : ℕ) (given : Given frames bit) where
    -- whether a frame can take a place does not depend on the order of the frames without one
    can_take_same : (x y : List ℕ) (n own : ℕ) → NamesEachOnce frames x → NamesEachOnce frames y
        → drop n x ≡ drop n y → Contains (take n x) own
        → CanTakeLowest frames bit (take n y) (drop n y) own → CanTakeLowest frames bit (take n x)
        (drop n x) own
    can_take_same x y n own names names' same among it =
        passes_under_fewer frames own (others_of own (take n x)) (drop n x) (others_of own (take n y))
        (drop n y) bit given.some_bit given.in_range
        (below frames (take n x) own (front_named frames x n names) among)
        (others_distinct own (take n x) (front_named frames x n names).distinct)
        (λ z in'. let other : Contains (take n x) z × (own ≡ z → ⊥) = others_are own (take n x) z in' in (
          below frames (take n x) z (front_named frames x n names) other.0,
          others_have own (take n y) z
              (same_front x y n z names names' same other.0) other.1,
        ))
        (λ z in'. (
          below frames (drop n x) z (back_named frames x n names) in',
          inl
              (subst (λ l. Contains l z) same in'),
        ))
        it

    -- of two orders that fill the places below alike none fills a place with a lesser number
    not_less : (x y : List ℕ) (count count' place : ℕ) → FillsLowestFirst frames bit count x
        → FillsLowestFirst frames bit count' y → count ≤ place → count' ≤ place
        → place < length x → place < length y
        → drop (place + 1) x ≡ drop (place + 1) y → ¬ (get_or x place 0 < get_or y place 0)
    not_less x y count count' place fills fills' from from' inside inside' same less =
        let own : ℕ = get_or y place 0 in
        let taken : TakesLowest frames bit (take (place + 1) x) (drop (place + 1) x) (get_or x place 0) =
        fills.taken place from inside in
        let taken' : TakesLowest frames bit (take (place + 1) y) (drop (place + 1) y) own =
        fills'.taken place from' inside' in
        let among : Contains (take (place + 1) x) own =
        same_front y x (place + 1) own fills'.names_each_once fills.names_each_once
        (sym same) taken'.without_place in
        taken.greatest own among less
        (can_take_same x y (place + 1) own fills.names_each_once fills'.names_each_once same among
        taken'.can_take)

    -- two orders that fill the places from one on do so alike
    same_back : (x y : List ℕ) (count count' : ℕ) → FillsLowestFirst frames bit count x
        → FillsLowestFirst frames bit count' y
        → (k place : ℕ) → count ≤ place → count' ≤ place → place + k ≡ length frames → drop place x ≡ drop place y
    same_back x y count count' fills fills' zero place from from' last =
        drop_all place x (omega (arith, length-names x fills.names_each_once, last))
        ∙ sym (drop_all place y (omega (arith, length-names y fills'.names_each_once, last)))
    same_back x y count count' fills fills' (suc k) place from from' last =
        let inside : place < length x = omega (arith, length-names x fills.names_each_once, last) in
        let inside' : place < length y = omega (arith, length-names y fills'.names_each_once, last) in
        let rest : drop (place + 1) x ≡ drop (place + 1) y = same_back x y count count' fills fills' k (place + 1)
        (omega arith) (omega arith) (omega arith) in
        let not_below = not_less x y count count' place fills fills' from from' inside inside' rest in
        let not_above = not_less y x count' count place fills' fills from' from inside' inside (sym rest) in
        let here : get_or x place 0 ≡ get_or y place 0 = elim
        (cases_lt (get_or x place 0) (get_or y place 0)) [
          | inl less ↦ absurd (not_below less)
          | inr le ↦ elim (cases_lt (get_or y place 0) (get_or x place 0)) [
            | inl more ↦ absurd
                (not_above more)
            | inr ge ↦ omega arith
          ]
        ] in
        drop_more x place 0 inside ∙ ap (λ n. n ∷ drop (place + 1) x) here ∙ ap
        (λ l. get_or y place 0 ∷ l) rest ∙ sym (drop_more y place 0 inside')

    pub one_order : (x y : List ℕ) → FillsLowestFirst frames bit 0 x → FillsLowestFirst frames bit 0 y → x ≡ y
    one_order x y fills fills' =
        same_back x y 0 0 fills fills' (length frames) 0 (omega arith) (omega arith) (omega arith)

    -- the places from one on are filled alike, where as many are left at most
    back_of : (x y : List ℕ) (count count' place : ℕ) → FillsLowestFirst frames bit count x
        → FillsLowestFirst frames bit count' y → count ≤ place → count' ≤ place → place ≤ length frames
        → drop place x ≡ drop place y
    back_of x y count count' place fills fills' from from' low =
        same_back x y count count' fills fills' (length frames - place) place from from' (omega arith)

    -- none is stuck with fewer frames than another fills up to
    not_fewer : (x y : List ℕ) (count count' : ℕ) → FillsLowestFirst frames bit count x
        → IsLowestFirst frames bit count' y → count' ≤ length frames → ¬ (count < count')
    not_fewer x y count count' fills it low less =
        let place : ℕ = count' - 1 in
        let next : count' ≡ place + 1 = omega arith in
        let inside : place < length x = omega (arith, length-names x fills.names_each_once) in
        let same : drop count' x ≡ drop count' y =
        back_of x y count count' count' fills it.fills (omega arith) (omega arith) low in
        let own : ℕ = get_or x place 0 in
        let taken : TakesLowest frames bit (take count' x) (drop count' x) own =
        subst (λ n. TakesLowest frames bit (take n x) (drop n x) own) (sym next)
        (fills.taken place (omega arith) inside) in
        let among : Contains (take count' y) own =
        same_front x y count' own fills.names_each_once it.fills.names_each_once same taken.without_place in
        it.none_can_take own among
        (can_take_same y x count' own it.fills.names_each_once fills.names_each_once (sym same) among
        taken.can_take)

    -- and the frames without a place are the same
    pub one_stuck : (x y : List ℕ) (count count' : ℕ) → IsLowestFirst frames bit count x
        → IsLowestFirst frames bit count' y → count ≤ length frames → count' ≤ length frames
        → take count x ≡ take count' y
    one_stuck x y count count' it it' low low' =
        let not_below = not_fewer x y count count' it.fills it' low' in
        let not_above = not_fewer y x count' count it'.fills it low in
        let many : count' ≡ count = elim (cases_lt count count') [
          | inl less ↦ absurd (not_below less)
          | inr le ↦ elim (cases_lt count' count) [
            | inl more ↦ absurd (not_above more)
            | inr ge ↦ omega arith
          ]
        ] in
        let same : drop count x ≡ drop count y =
        back_of x y count count' count it.fills it'.fills (omega arith) (omega arith) low in
        let rises : IsStrictlyIncreasing (take count y) =
        subst (λ n. IsStrictlyIncreasing (take n y)) many it'.fills.ascending in
        one_rising (take count x) (take count y) it.fills.ascending rises
        (λ z. same_front x y count z it.fills.names_each_once it'.fills.names_each_once same)
        (λ z. same_front y x count z it'.fills.names_each_once it.fills.names_each_once (sym same))
        ∙ ap (λ n. take n y) (sym many)
