-- How many elements of a list pass a test, from where they stand.
use Rattle.std.proofs.Common.{◌≡◌, ℕ, ◌+◌, ◌<◌, ◌≤◌, Bool, true, false, cond, List, [], ◌∷◌, length, get_or, count_by, suc, zero, ap, refl, ◌∙◌, arith}
use Rattle.std.proofs.lemmas.List.Sums.{sum_by-cons}

module _ {X : Type 0} (p : X → Bool) where
  pub counted : (x : X) (xs : List X) → count_by p (x ∷ xs) ≡ cond (p x) 1 0 + count_by p xs
  counted x xs = sum_by-cons (λ y. cond (p y) 1 0) x xs

  counted_true : (x : X) (xs : List X) → p x ≡ true → count_by p (x ∷ xs) ≡ 1 + count_by p xs
  counted_true x xs e = counted x xs ∙ ap (λ b. cond b 1 0 + count_by p xs) e

  counted_false : (x : X) (xs : List X) → p x ≡ false → count_by p (x ∷ xs) ≡ count_by p xs
  counted_false x xs e = counted x xs ∙ ap (λ b. cond b 1 0 + count_by p xs) e ∙ omega arith

  -- an element that passes is counted
  pub count_some : (xs : List X) (i : ℕ) (d : X) → i < length xs → p (get_or xs i d) ≡ true
      → 1 ≤ count_by p xs
  count_some [] i d lt e = absurd (omega arith)
  count_some (x ∷ xs) zero d lt e = omega (arith, counted_true x xs e)
  count_some (x ∷ xs) (suc k) d lt e = omega (arith, counted x xs, count_some xs k d (omega arith) e)

  -- two are counted
  pub count_two : (xs : List X) (i j : ℕ) (d : X) → i < j → j < length xs → p (get_or xs i d) ≡ true
      → p (get_or xs j d) ≡ true → 2 ≤ count_by p xs
  count_two [] i j d before lt e f = absurd (omega arith)
  count_two (x ∷ xs) i zero d before lt e f = absurd (omega arith)
  count_two (x ∷ xs) zero (suc m) d before lt e f =
      omega (arith, counted_true x xs e, count_some xs m d (omega arith) f)
  count_two (x ∷ xs) (suc k) (suc m) d before lt e f =
      omega (arith, counted x xs, count_two xs k m d (omega arith) (omega arith) e f)

  -- none are counted where none passes
  pub count_none : (xs : List X) → ((k : ℕ) (d : X) → k < length xs → p (get_or xs k d) ≡ false)
      → count_by p xs ≡ 0
  count_none [] all = refl
  count_none (x ∷ xs) all = counted_false x xs (all 0 x (omega arith))
      ∙ count_none xs (λ k d lt. all (suc k) d (omega arith))

  -- one is counted where one alone passes
  pub count_only : (xs : List X) (i : ℕ) → i < length xs → ((d : X) → p (get_or xs i d) ≡ true)
      → ((k : ℕ) (d : X) → k < length xs → (k ≡ i → ⊥) → p (get_or xs k d) ≡ false) → count_by p xs ≡ 1
  count_only [] i lt here others = absurd (omega arith)
  count_only (x ∷ xs) zero lt here others =
      counted_true x xs (here x)
      ∙ ap (λ n. 1 + n) (count_none xs (λ k d below. others (suc k) d (omega arith) (λ e. omega arith)))
  count_only (x ∷ xs) (suc m) lt here others =
      counted_false x xs (others 0 x (omega arith) (λ e. omega arith))
      ∙ count_only xs m (omega arith) here
      (λ k d below ne. others (suc k) d (omega arith) (λ e. ne (omega arith)))
