-- The different elements of a list, as elements come one by one.
use Rattle.std.proofs.Common.{◌≡◌, ◌≤◌, Bool, true, false, cond, filter, ◌||◌, List, [], ◌∷◌, ◌++◌, length, refl, sym, ap, ◌∙◌, arith, not, append-nil, append_assoc}
use Rattle.std.specs.Cmp.{IsEquivalence}
use Rattle.std.specs.List.{list_any}
use Rattle.std.proofs.lemmas.Map.Views.{any-filter_same}
use Rattle.std.proofs.lemmas.List.Elements.{filter-append}
use Rattle.std.proofs.lemmas.List.Sums.{length-filter, count_by-le-length}
use Rattle.pack_model.specs.Problem.{distinct}

module _ {X : Type 0} (eq : X → X → Bool) (laws : IsEquivalence eq) where
  -- an element that equals y is no x where y is none
  not_x : (x y k : X) → eq y x ≡ false → eq y k ≡ true → not (eq x k) ≡ true
  not_x x y k differ same = ap not (laws.symm x k ∙ sym (laws.congr y k x same) ∙ differ)

  -- the different elements find what the list finds
  pub list_any-distinct : (y : X) (xs : List X) → list_any (eq y) (distinct eq xs) ≡ list_any (eq y) xs
  list_any-distinct y [] = refl
  list_any-distinct y (x ∷ xs) = by (eq y x) refl (list_any-distinct y xs)
    where
      by : (b : Bool) → eq y x ≡ b → list_any (eq y) (distinct eq xs) ≡ list_any (eq y) xs
          → list_any (eq y) (distinct eq (x ∷ xs)) ≡ list_any (eq y) (x ∷ xs)
      by true e ih = ap (λ b. b || list_any (eq y) (filter (λ z. not (eq x z)) (distinct eq xs))) e
          ∙ sym (ap (λ b. b || list_any (eq y) xs) e)
      by false e ih =
          ap (λ b. eq y x || b) (any-filter_same (eq y) (λ z. not (eq x z)) true
          (λ k same. not_x x y k e same) (distinct eq xs) ∙ ih)

  -- one more is a different one, or is there
  pub distinct-push : (xs : List X) (y : X)
      → distinct eq (xs ++ y ∷ [])
      ≡ cond (list_any (eq y) (distinct eq xs)) (distinct eq xs) (distinct eq xs ++ y ∷ [])
  distinct-push [] y = refl
  distinct-push (x ∷ xs) y = by (eq y x) (list_any (eq y) (distinct eq xs)) refl refl (distinct-push xs y)
    where
      by : (b c : Bool) → eq y x ≡ b → list_any (eq y) (distinct eq xs) ≡ c
          → distinct eq (xs ++ y ∷ [])
          ≡ cond (list_any (eq y) (distinct eq xs)) (distinct eq xs) (distinct eq xs ++ y ∷ [])
          → distinct eq ((x ∷ xs) ++ y ∷ [])
          ≡ cond (list_any (eq y) (distinct eq (x ∷ xs))) (distinct eq (x ∷ xs))
          (distinct eq (x ∷ xs) ++ y ∷ [])
      by true true e f ih =
          ap (λ d. x ∷ filter (λ z. not (eq x z)) d)
          (ih ∙ ap (λ t. cond t (distinct eq xs) (distinct eq xs ++ y ∷ [])) f)
          ∙ sym (ap (λ t. cond (t || list_any (eq y) (filter (λ z. not (eq x z)) (distinct eq xs)))
          (distinct eq (x ∷ xs)) (distinct eq (x ∷ xs) ++ y ∷ [])) e)
      by true false e f ih =
          ap (λ d. x ∷ filter (λ z. not (eq x z)) d)
          (ih ∙ ap (λ t. cond t (distinct eq xs) (distinct eq xs ++ y ∷ [])) f)
          ∙ ap (λ l. x ∷ l) (filter-append (λ z. not (eq x z)) (distinct eq xs) (y ∷ [])
          ∙ ap (λ t. filter (λ z. not (eq x z)) (distinct eq xs) ++ cond (not t) (y ∷ []) [])
          (laws.symm x y ∙ e) ∙ append-nil _)
          ∙ sym (ap (λ t. cond (t || list_any (eq y) (filter (λ z. not (eq x z)) (distinct eq xs)))
          (distinct eq (x ∷ xs)) (distinct eq (x ∷ xs) ++ y ∷ [])) e)
      by false true e f ih =
          ap (λ d. x ∷ filter (λ z. not (eq x z)) d)
          (ih ∙ ap (λ t. cond t (distinct eq xs) (distinct eq xs ++ y ∷ [])) f)
          ∙ sym (ap (λ t. cond (t || list_any (eq y) (filter (λ z. not (eq x z)) (distinct eq xs)))
          (distinct eq (x ∷ xs)) (distinct eq (x ∷ xs) ++ y ∷ [])) e
          ∙ ap (λ t. cond t (distinct eq (x ∷ xs)) (distinct eq (x ∷ xs) ++ y ∷ []))
          (any-filter_same (eq y) (λ z. not (eq x z)) true (λ k same. not_x x y k e same) (distinct eq xs)
          ∙ f))
      by false false e f ih =
          ap (λ d. x ∷ filter (λ z. not (eq x z)) d)
          (ih ∙ ap (λ t. cond t (distinct eq xs) (distinct eq xs ++ y ∷ [])) f)
          ∙ ap (λ l. x ∷ l) (filter-append (λ z. not (eq x z)) (distinct eq xs) (y ∷ [])
          ∙ ap (λ t. filter (λ z. not (eq x z)) (distinct eq xs) ++ cond (not t) (y ∷ []) [])
          (laws.symm x y ∙ e))
          ∙ sym (ap (λ t. cond (t || list_any (eq y) (filter (λ z. not (eq x z)) (distinct eq xs)))
          (distinct eq (x ∷ xs)) (distinct eq (x ∷ xs) ++ y ∷ [])) e
          ∙ ap (λ t. cond t (distinct eq (x ∷ xs)) (distinct eq (x ∷ xs) ++ y ∷ []))
          (any-filter_same (eq y) (λ z. not (eq x z)) true (λ k same. not_x x y k e same) (distinct eq xs)
          ∙ f))

  -- there are no more different elements than elements
  pub length-distinct : (xs : List X) → length (distinct eq xs) ≤ length xs
  length-distinct [] = omega arith
  length-distinct (x ∷ xs) =
      omega (
        arith,
        length-distinct xs,
        length-filter (λ z. not (eq x z)) (distinct eq xs),
        count_by-le-length (λ z. not (eq x z)) (distinct eq xs),
      )

  -- the different elements of a front come first
  pub distinct-front : (ys xs : List X) → (more : List X) × (distinct eq (xs ++ ys) ≡ distinct eq xs ++ more)
  distinct-front [] xs = ([], ap (distinct eq) (append-nil xs) ∙ sym (append-nil (distinct eq xs)))
  distinct-front (y ∷ ys) xs = by (list_any (eq y) (distinct eq xs)) refl (distinct-front ys (xs ++ y ∷ []))
    where
      by : (b : Bool) → list_any (eq y) (distinct eq xs) ≡ b
          → (more : List X) × (distinct eq ((xs ++ y ∷ []) ++ ys) ≡ distinct eq (xs ++ y ∷ []) ++ more)
          → (more : List X) × (distinct eq (xs ++ y ∷ ys) ≡ distinct eq xs ++ more)
      by true e (more, is) = (
        more,
        ap (distinct eq) (sym (append_assoc xs (y ∷ []) ys)) ∙ is
            ∙ ap (λ l. l ++ more) (distinct-push xs y
            ∙ ap (λ b. cond b (distinct eq xs) (distinct eq xs ++ y ∷ [])) e),
      )
      by false e (more, is) = (
        y ∷ more,
        ap (distinct eq) (sym (append_assoc xs (y ∷ []) ys)) ∙ is
            ∙ ap (λ l. l ++ more) (distinct-push xs y
            ∙ ap (λ b. cond b (distinct eq xs) (distinct eq xs ++ y ∷ [])) e)
            ∙ append_assoc (distinct eq xs) (y ∷ []) more,
      )
