-- Laws of sums over numbers.
use Rattle.std.proofs.Common.{◌≡◌, ℕ, ◌+◌, ◌≤◌, zero, suc, inl, inr, List, [], ◌∷◌, ◌++◌, take, drop, get_or, nat_eq, sum_by, Contains, true, false, refl, sym, ◌∙◌, ap, subst, arith, drop-cons, take-append-drop, eq-eqb}
use Rattle.std.specs.List.{IsDistinct}
use Rattle.busy_period.specs.Stage.{IsSameSet}
use Rattle.std.proofs.lemmas.Bool.{eqb-true}
use Rattle.std.proofs.lemmas.List.{get_or_default}
use Rattle.std.proofs.lemmas.List.Elements.{All-contains, All-take, All-from_recursion, recursion_from_All, Contains-append_left, Contains-append_right, Contains-append_cases}
use Rattle.std.proofs.lemmas.List.Sums.{sum_by-cons, sum_by-append}
use Rattle.std.proofs.lemmas.Map.Keys.{IsDistinct-head, IsDistinct-tail, IsDistinct-cons}

-- a list of one has no other element
pub one : (x z : ℕ) → Contains (x ∷ []) z → x ≡ z
one x z (zero, in', is) = is
one x z (suc k, in', is) = absurd (omega (arith, in'))

-- the first element does not come again in a list without repeats
pub head_apart : (x z : ℕ) (xs : List ℕ) → IsDistinct nat_eq (x ∷ xs) → Contains xs z → x ≡ z → ⊥
head_apart x z xs distinct in' is =
    let apart : nat_eq x z ≡ false =
    All-contains (λ y. nat_eq x y ≡ false) xs z
    (All-from_recursion (λ y. nat_eq x y ≡ false) xs (IsDistinct-head nat_eq x xs distinct)) in' in
    let same : nat_eq x z ≡ true = eq-eqb x z is in
    cc

-- the test of numbers that are not the same
pub differ : (x y : ℕ) → (x ≡ y → ⊥) → nat_eq x y ≡ false
differ x y apart = elim (nat_eq x y) as (λ b. nat_eq x y ≡ b → nat_eq x y ≡ false) [
  | true ↦ λ is. absurd (apart (eqb-true x y is))
  | false ↦ λ is. is
] refl

-- a number that is not among numbers without repeats may go before them
pub IsDistinct-absent : (x : ℕ) (xs : List ℕ) → IsDistinct nat_eq xs → (¬ (Contains xs x))
    → IsDistinct nat_eq (x ∷ xs)
IsDistinct-absent x xs distinct absent =
    IsDistinct-cons nat_eq x xs
    (recursion_from_All (λ y. nat_eq x y ≡ false) xs
    (λ k d inside. differ x (get_or xs k d)
    (λ same. absent (k, inside, get_or_default xs k x d inside ∙ sym same))))
    distinct

-- Numbers without repeats, all of them among others: a sum over them is at most a greater one over the
-- others.
pub sum_within : (f g : ℕ → ℕ) (xs ys : List ℕ) → IsDistinct nat_eq xs
    → ((z : ℕ) → Contains xs z → Contains ys z)
    → ((z : ℕ) → Contains xs z → f z ≤ g z) → sum_by f xs ≤ sum_by g ys
sum_within f g [] ys distinct within le = omega arith
sum_within f g (x ∷ xs) ys distinct within le =
    let first : Contains (x ∷ xs) x = (0, omega arith, refl) in
    let at : Contains ys x = within x first in
    let k : ℕ = at.0 in
    let front : List ℕ = take k ys in
    let back : List ℕ = drop (suc k) ys in
    let split : ys ≡ front ++ x ∷ back =
    sym (take-append-drop k ys) ∙ ap (λ l. front ++ l) (drop-cons ys k x at.1 ∙ ap (λ y. y ∷ back) at.2) in
    let others : (z : ℕ) → Contains xs z → Contains (front ++ back) z = λ z in'.
    elim (Contains-append_cases front (x ∷ back) z
    (subst (λ l. Contains l z) split (within z (Contains-append_right (x ∷ []) xs z in')))) [
      | inl left ↦ Contains-append_left front back z left
      | inr right ↦ elim (Contains-append_cases (x ∷ []) back z right) [
        | inl same ↦ absurd (head_apart x z xs distinct in' (one x z same))
        | inr right' ↦ Contains-append_right front back z right'
      ]
    ] in
    let rest : sum_by f xs ≤ sum_by g (front ++ back) =
    sum_within f g xs (front ++ back) (IsDistinct-tail nat_eq x xs distinct) others
    (λ z in'. le z (Contains-append_right (x ∷ []) xs z in')) in
    let whole : sum_by g ys ≡ sum_by g front + (g x + sum_by g back) =
    ap (sum_by g) split ∙ sum_by-append g front (x ∷ back)
    ∙ ap (λ n. sum_by g front + n) (sum_by-cons g x back) in
    let parts : sum_by g (front ++ back) ≡ sum_by g front + sum_by g back = sum_by-append g front back in
    let here : f x ≤ g x = le x first in
    let left : sum_by f (x ∷ xs) ≡ f x + sum_by f xs = sum_by-cons f x xs in
    omega arith

-- the first numbers of a list without repeats
pub IsDistinct-take : (n : ℕ) (xs : List ℕ) → IsDistinct nat_eq xs → IsDistinct nat_eq (take n xs)
unfolding IsDistinct
IsDistinct-take zero xs distinct = tt
IsDistinct-take (suc n) [] distinct = tt
IsDistinct-take (suc n) (x ∷ xs) distinct =
    IsDistinct-cons nat_eq x (take n xs)
    (recursion_from_All (λ y. nat_eq x y ≡ false) (take n xs)
    (All-take (λ y. nat_eq x y ≡ false) n xs
    (All-from_recursion (λ y. nat_eq x y ≡ false) xs (IsDistinct-head nat_eq x xs distinct))))
    (IsDistinct-take n xs (IsDistinct-tail nat_eq x xs distinct))

-- numbers without repeats that are the same ones have the same sum
pub sum_by-same_set : (f : ℕ → ℕ) (xs ys : List ℕ) → IsDistinct nat_eq xs → IsDistinct nat_eq ys
    → IsSameSet xs ys
    → sum_by f xs ≡ sum_by f ys
sum_by-same_set f xs ys distinct distinct' same =
    let le : sum_by f xs ≤ sum_by f ys = sum_within f f xs ys distinct same.there (λ z _. omega arith) in
    let ge : sum_by f ys ≤ sum_by f xs = sum_within f f ys xs distinct' same.back (λ z _. omega arith) in
    omega arith
