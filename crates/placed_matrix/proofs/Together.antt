-- Elements of which each two are related, as they come one by one.
use Rattle.std.proofs.Common.{◌≡◌, ℕ, ◌+◌, ◌<◌, ◌≤◌, ◌⊎◌, List, length, get_or, take, inl, inr, sym, subst, arith, All, AllPairs, get_or-take, length-take}
use Rattle.std.proofs.lemmas.Bool.{cases_lt}
use Rattle.placed_matrix.proofs.FirstRows.{at_number}

-- the elements below a number are related
abbrev pub RelatedBelow : {X : Type 0} → (X → X → Type 0) → List X → ℕ → Type 0
RelatedBelow {X} R xs number = (i j : ℕ) (d : X) → i < j → j < number → R (get_or xs i d) (get_or xs j d)

module _ {X : Type 0} (R : X → X → Type 0) (xs : List X) (number : ℕ) (x : X) (lt : number < length xs)
    (at : x ≡ get_or xs number x) where
  -- where all are, each earlier one is with the element
  pub with_earlier : AllPairs R xs → All (λ other. R other x) (take number xs)
  with_earlier all k d inside =
      let few : k < number = omega (arith, simp length-take at inside) in
      subst (λ r. R r x) (sym (get_or-take number xs k d few))
      (subst (R (get_or xs k d)) (at_number xs number x d lt at) (all k number d few lt))

  -- one element more
  pub related_more : RelatedBelow R xs number → All (λ other. R other x) (take number xs)
      → RelatedBelow R xs (number + 1)
  related_more below earlier i j d before within = by (cases_lt j number)
    where
      by : (j < number) ⊎ (number ≤ j) → R (get_or xs i d) (get_or xs j d)
      by (inl h) = below i j d before h
      by (inr h) =
          let last : number ≡ j = omega arith in
          let few : i < number = omega (arith, before, last) in
          let inside : i < length (take number xs) = simp length-take (omega (arith, few, lt)) in
          let here : R (get_or xs i d) x =
          subst (λ r. R r x) (get_or-take number xs i d few) (earlier i d inside) in
          subst (λ n. R (get_or xs i d) (get_or xs n d)) last
          (subst (R (get_or xs i d)) (sym (at_number xs number x d lt at)) here)
