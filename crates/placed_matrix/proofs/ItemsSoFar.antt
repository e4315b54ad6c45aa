-- A filter of the items so far, and one item more.
use Rattle.std.proofs.Common.{◌≡◌, ℕ, ◌+◌, ◌<◌, Bool, true, false, cond, List, [], ◌∷◌, ◌++◌, length, get_or, take, filter, sym, ap, ◌∙◌, append-nil, refl, suc, arith}
use Rattle.std.proofs.lemmas.List.Elements.{filter_more}

module _ {X : Type 0} (p : X → Bool) (xs : List X) (i : ℕ) (x : X) (lt : i < length xs)
    (at : x ≡ get_or xs i x) where
  one_more : filter p (take (i + 1) xs) ≡ filter p (take i xs) ++ cond (p x) (x ∷ []) []
  one_more = filter_more p xs i x lt ∙ ap (λ y. filter p (take i xs) ++ cond (p y) (y ∷ []) []) (sym at)

  pub kept : p x ≡ true → filter p (take (i + 1) xs) ≡ filter p (take i xs) ++ x ∷ []
  kept e = one_more ∙ ap (λ b. filter p (take i xs) ++ cond b (x ∷ []) []) e

  pub passed : p x ≡ false → filter p (take (i + 1) xs) ≡ filter p (take i xs)
  passed e = one_more ∙ ap (λ b. filter p (take i xs) ++ cond b (x ∷ []) []) e
      ∙ append-nil (filter p (take i xs))

-- nothing is kept where nothing passes
pub none_kept : {X : Type 0} (p : X → Bool) (xs : List X)
    → ((k : ℕ) (d : X) → k < length xs → p (get_or xs k d) ≡ false) → filter p xs ≡ []
none_kept p [] none = refl
none_kept p (x ∷ xs) none = ap (λ b. cond b (x ∷ filter p xs) (filter p xs)) (none 0 x (omega arith))
    ∙ none_kept p xs (λ k d lt. none (suc k) d (omega arith))
