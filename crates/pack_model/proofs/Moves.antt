-- What a list keeps when its elements change places.
use Rattle.std.proofs.Common.{◌≡◌, ◌<◌, ℕ, zero, suc, cond, nat_eq, ◌⊎◌, inl, inr, List, [], ◌∷◌, ◌++◌, length, map, get_or, set, refl, sym, ap, subst, ◌∙◌, arith, append_assoc, eq-eqb, ne_eqb}
use Rattle.std.specs.List.{flat_map, swap}
use Rattle.std.specs.List.Sorted.{IsPermutation}
use Rattle.std.proofs.lemmas.Bool.{cases_eq}
use Rattle.std.proofs.lemmas.Bool.Decides.{nat_tests}
use Rattle.std.proofs.lemmas.List.{get_or_default, get_or-map, length-map}
use Rattle.std.proofs.lemmas.List.Edits.{swap_is, swapped_from_swap, length-swap, Swapped}
use Rattle.std.proofs.lemmas.List.Sorted.{IsPermutation-refl, IsPermutation-trans, IsPermutation-append_left, IsPermutation-append_right, IsPermutation-append_comm, IsPermutation-keeps}
use Rattle.pack_model.proofs.Laws.{element}

-- two fronts change places
exchange : {A : Type 0} (a b c : List A) → IsPermutation (a ++ (b ++ c)) (b ++ (a ++ c))
exchange a b c =
    subst (λ l. IsPermutation l (b ++ (a ++ c))) (append_assoc a b c)
    (subst (IsPermutation ((a ++ b) ++ c)) (append_assoc b a c)
    (IsPermutation-append_left c (a ++ b) (b ++ a) (IsPermutation-append_comm a b)))

module _ {X A : Type 0} (h : X → List A) where
  -- an element before a list changes places with one of the list
  moved : (xs : List X) (j : ℕ) (x y : X) → j < length xs → y ≡ get_or xs j y
      → IsPermutation (h x ++ flat_map h xs) (h y ++ flat_map h (set xs j x))
  moved [] j x y lt at = absurd (omega arith)
  moved (z ∷ zs) zero x y lt at =
      subst (λ w. IsPermutation (h x ++ (h z ++ flat_map h zs)) (h w ++ (h x ++ flat_map h zs))) (sym at)
      (exchange (h x) (h z) (flat_map h zs))
  moved (z ∷ zs) (suc j) x y lt at =
      let rest : List A = flat_map h (set zs j x) in
      IsPermutation-trans (h x ++ (h z ++ flat_map h zs)) (h z ++ (h x ++ flat_map h zs))
      (h y ++ (h z ++ rest)) (exchange (h x) (h z) (flat_map h zs))
      (IsPermutation-trans (h z ++ (h x ++ flat_map h zs)) (h z ++ (h y ++ rest)) (h y ++ (h z ++ rest))
      (IsPermutation-append_right (h z) (h x ++ flat_map h zs) (h y ++ rest)
      (moved zs j x y (omega arith) at))
      (exchange (h z) (h y) rest))

  -- two elements of a list change places
  swapped : (xs : List X) (i j : ℕ) → i < length xs → j < length xs
      → IsPermutation (flat_map h xs) (flat_map h (swap xs i j))
  swapped [] i j lt_i lt_j = absurd (omega arith)
  swapped (x ∷ xs) zero zero lt_i lt_j = IsPermutation-refl (flat_map h (x ∷ xs))
  swapped (x ∷ xs) zero (suc j) lt_i lt_j =
      moved xs j x (get_or xs j x) (omega arith) (get_or_default xs j x (get_or xs j x) (omega arith))
  swapped (x ∷ xs) (suc i) zero lt_i lt_j =
      moved xs i x (get_or xs i x) (omega arith) (get_or_default xs i x (get_or xs i x) (omega arith))
  swapped (x ∷ xs) (suc i) (suc j) lt_i lt_j =
      IsPermutation-append_right (h x) (flat_map h xs)
      (flat_map h (set (set xs i (get_or xs j x)) j (get_or xs i x)))
      (subst (λ l. IsPermutation (flat_map h xs) (flat_map h l))
      (sym (swap_is xs i j x (omega arith) (omega arith))) (swapped xs i j (omega arith) (omega arith)))

  -- lists joined in another order
  pub IsPermutation-flat_map : (xs ys : List X) → IsPermutation xs ys
      → IsPermutation (flat_map h xs) (flat_map h ys)
  IsPermutation-flat_map xs ys same =
      IsPermutation-keeps xs (λ l. IsPermutation (flat_map h xs) (flat_map h l))
      (IsPermutation-refl (flat_map h xs))
      (λ l i j lt_i lt_j so_far.
      IsPermutation-trans (flat_map h xs) (flat_map h l) (flat_map h (swap l i j)) so_far
      (swapped l i j lt_i lt_j)) ys same

-- a property has at most one place in a list
abbrev pub AtMostOne : {X : Type 0} → (X → Type 0) → List X → Type 0
AtMostOne {X} P xs = (i j : ℕ) (d : X) → i < length xs → j < length xs → P (get_or xs i d) → P (get_or xs j d)
    → i ≡ j

-- where an element comes from, after two change places
abbrev partner : ℕ → ℕ → ℕ → ℕ
partner a b i = cond (nat_eq i a) b (cond (nat_eq i b) a i)

same_partner : (a b i j : ℕ) → partner a b i ≡ partner a b j → i ≡ j
same_partner a b i j same = grind (arith, nat_tests)

partner_within : (a b i n : ℕ) → a < n → b < n → i < n → partner a b i < n
partner_within a b i n lt_a lt_b lt = grind (arith, nat_tests)

from_partner : {X : Type 0} (f g : ℕ → X) (a b i : ℕ) → Swapped f g a b → g i ≡ f (partner a b i)
from_partner f g a b i moves = by (cases_eq i a) (cases_eq i b)
  where
    by : (i ≡ a) ⊎ (i ≡ a → ⊥) → (i ≡ b) ⊎ (i ≡ b → ⊥) → g i ≡ f (partner a b i)
    by (inl e) _ = ap g e ∙ moves.0 ∙ ap (λ t. f (cond t b (cond (nat_eq i b) a i))) (sym (eq-eqb i a e))
    by (inr ne) (inl e) = ap g e ∙ moves.1 ∙ rw (ne_eqb i a ne, eq-eqb i b e) refl
    by (inr ne) (inr ne_b) = moves.2 i ne ne_b ∙ rw (ne_eqb i a ne, ne_eqb i b ne_b) refl

-- and so it has in another order
pub AtMostOne-permutation : {X : Type 0} (P : X → Type 0) (xs ys : List X) → IsPermutation xs ys
    → AtMostOne P xs → AtMostOne P ys
AtMostOne-permutation {X} P xs ys same one = IsPermutation-keeps xs (AtMostOne P) one step ys same
  where
    step : (l : List X) (a b : ℕ) → a < length l → b < length l → AtMostOne P l → AtMostOne P (swap l a b)
    step l a b lt_a lt_b so_far i j d lt_i lt_j at_i at_j =
        let moves = swapped_from_swap l (swap l a b) a b d lt_a lt_b refl in
        let long = length-swap l a b in
        same_partner a b i j (so_far (partner a b i) (partner a b j) d
        (partner_within a b i (length l) lt_a lt_b (omega arith))
        (partner_within a b j (length l) lt_a lt_b (omega arith))
        (subst P (from_partner (λ k. get_or l k d) (λ k. get_or (swap l a b) k d) a b i moves) at_i)
        (subst P (from_partner (λ k. get_or l k d) (λ k. get_or (swap l a b) k d) a b j moves) at_j))

-- what a function makes of a list has it, where the list has it so
pub AtMostOne-map : {X Y : Type 0} (f : X → Y) (P : Y → Type 0) (xs : List X) → AtMostOne (λ x. P (f x)) xs
    → AtMostOne P (map f xs)
AtMostOne-map {X} {Y} f P xs one i j d lt_i lt_j at_i at_j =
    let in_i : i < length xs = simp length-map at lt_i in
    let in_j : j < length xs = simp length-map at lt_j in
    let x : X = (element xs i in_i).0 in
    one i j x in_i in_j (subst P (get_or-map f xs i x d in_i) at_i)
    (subst P (get_or-map f xs j x d in_j) at_j)
