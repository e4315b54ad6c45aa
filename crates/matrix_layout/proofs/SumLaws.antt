-- Sums, and what holds of all elements, over lists that are put together.
use Rattle.std.proofs.Common.{◌≡◌, ℕ, ◌+◌, ◌<◌, List, [], ◌∷◌, length, map, sum_by, get_or, All, refl, sym, ap, subst, ◌∙◌, zero-add}
use Rattle.std.specs.List.{flat_map, enumerate_from}
use Rattle.std.proofs.lemmas.List.Elements.{All-nil, All-head, All-tail, All-append}
use Rattle.std.proofs.lemmas.List.{get_or_default}
use Rattle.std.proofs.lemmas.List.FromFn.{length-enumerate_from, get_or-enumerate_from}
use Rattle.std.proofs.lemmas.List.Sums.{sum_by-cons, sum_by-append}

module _ {X Y : Type 0} where
  pub sum_by-map : (f : Y → ℕ) (g : X → Y) (xs : List X) → sum_by f (map g xs) ≡ sum_by (λ x. f (g x)) xs
  sum_by-map f g [] = refl
  sum_by-map f g (x ∷ xs) = sum_by-cons f (g x) (map g xs) ∙ ap (λ n. f (g x) + n) (sum_by-map f g xs)
      ∙ sym (sum_by-cons (λ x. f (g x)) x xs)

  pub sum_by-flat_map : (f : Y → ℕ) (g : X → List Y) (xs : List X)
      → sum_by f (flat_map g xs) ≡ sum_by (λ x. sum_by f (g x)) xs
  sum_by-flat_map f g [] = refl
  sum_by-flat_map f g (x ∷ xs) = sum_by-append f (g x) (flat_map g xs)
      ∙ ap (λ n. sum_by f (g x) + n) (sum_by-flat_map f g xs) ∙ sym (sum_by-cons (λ x. sum_by f (g x)) x xs)

  -- what holds of each part holds of the whole
  pub All-flat_map : (P : Y → Type 0) (g : X → List Y) (xs : List X) → All (λ x. All P (g x)) xs
      → All P (flat_map g xs)
  All-flat_map P g [] all = All-nil P
  All-flat_map P g (x ∷ xs) all =
      All-append P (g x) (flat_map g xs) (All-head (λ x. All P (g x)) x xs all)
      (All-flat_map P g xs (All-tail (λ x. All P (g x)) x xs all))

module _ {X : Type 0} where
  pub sum_by-enumerate : (f : X → ℕ) (n : ℕ) (xs : List X)
      → sum_by (λ (e : ℕ × X). f e.1) (enumerate_from n xs) ≡ sum_by f xs
  sum_by-enumerate f n [] = refl
  sum_by-enumerate f n (x ∷ xs) = sum_by-cons (λ (e : ℕ × X). f e.1) (n, x) (enumerate_from (n + 1) xs)
      ∙ ap (λ m. f x + m) (sum_by-enumerate f (n + 1) xs) ∙ sym (sum_by-cons f x xs)

  pub sum_by-same : (f g : X → ℕ) (xs : List X) → All (λ x. f x ≡ g x) xs → sum_by f xs ≡ sum_by g xs
  sum_by-same f g [] all = refl
  sum_by-same f g (x ∷ xs) all =
      sum_by-cons f x xs ∙ ap (λ n. n + sum_by f xs) (All-head (λ x. f x ≡ g x) x xs all)
      ∙ ap (λ n. g x + n) (sum_by-same f g xs (All-tail (λ x. f x ≡ g x) x xs all))
      ∙ sym (sum_by-cons g x xs)

  -- elements by number
  pub All-enumerate : (P : ℕ × X → Type 0) (xs : List X)
      → ((k : ℕ) (x : X) → k < length xs → x ≡ get_or xs k x → P (k, x)) → All P (enumerate_from 0 xs)
  All-enumerate P xs each = λ k d lt. here k d (simp length-enumerate_from at lt)
    where
      here : (k : ℕ) (d : ℕ × X) → k < length xs → P (get_or (enumerate_from 0 xs) k d)
      here k d lt =
          subst P (sym (get_or-enumerate_from 0 xs k d lt ∙ (λ i. (zero-add k i, get_or xs k d.1))))
          (each k (get_or xs k d.1) lt (get_or_default xs k d.1 (get_or xs k d.1) lt))
