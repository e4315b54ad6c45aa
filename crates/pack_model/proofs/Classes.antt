-- The classes of a list under an equivalence, each by its first element.
use Rattle.std.proofs.Common.{◌≡◌, ◌<◌, ℕ, Bool, true, false, cond, filter, ◌||◌, ◌⊎◌, inl, inr, List, [], ◌∷◌, ◌++◌, length, get_or, refl, sym, ap, subst, ◌∙◌, arith, not, true≢false, All}
use Rattle.std.specs.Cmp.{IsEquivalence}
use Rattle.std.specs.List.{list_any, flat_map, Any, IsDistinct}
use Rattle.std.specs.List.Sorted.{IsPermutation}
use Rattle.std.proofs.lemmas.Bool.{not-true, cases_order}
use Rattle.std.proofs.lemmas.List.Elements.{All-nil, All-cons, All-head, All-tail, All-filter, filter_passes, recursion_from_All, All-from_recursion}
use Rattle.std.proofs.lemmas.List.Folds.{list_any_at, Any-from_list_any}
use Rattle.std.proofs.lemmas.List.Sorted.{IsPermutation-refl, IsPermutation-trans, IsPermutation-append_right, IsPermutation-filter_both}
use Rattle.std.proofs.lemmas.Map.Keys.{IsDistinct-head, IsDistinct-tail, IsDistinct-cons, IsDistinct-from_apart, apart_from_distinct}
use Rattle.pack_model.specs.Problem.{distinct}
use Rattle.pack_model.proofs.Distinct.{list_any-distinct}

-- what holds of each element holds of the different ones
pub All-distinct : {X : Type 0} (eq : X → X → Bool) (P : X → Type 0) (xs : List X) → All P xs
    → All P (distinct eq xs)
All-distinct eq P [] all = all
All-distinct eq P (x ∷ xs) all =
    All-cons P x (filter (λ y. not (eq x y)) (distinct eq xs)) (All-head P x xs all)
    (All-filter (λ y. not (eq x y)) P (distinct eq xs) (All-distinct eq P xs (All-tail P x xs all)))

-- a filter keeps apart what is apart
IsDistinct-filter : {X : Type 0} (eq : X → X → Bool) (p : X → Bool) (xs : List X) → IsDistinct eq xs
    → IsDistinct eq (filter p xs)
IsDistinct-filter eq p [] apart = apart
IsDistinct-filter eq p (x ∷ xs) apart = by (p x) (IsDistinct-filter eq p xs (IsDistinct-tail eq x xs apart))
  where
    by : (b : Bool) → IsDistinct eq (filter p xs) → IsDistinct eq (cond b (x ∷ filter p xs) (filter p xs))
    by false rest = rest
    by true rest =
        let from_x : All (λ y. eq x y ≡ false) xs =
        All-from_recursion (λ y. eq x y ≡ false) xs (IsDistinct-head eq x xs apart) in
        IsDistinct-cons eq x (filter p xs)
        (recursion_from_All (λ y. eq x y ≡ false) (filter p xs)
        (All-filter p (λ y. eq x y ≡ false) xs from_x)) rest

-- what a narrower test keeps, the wider one kept
filter_within : {X : Type 0} (p q : X → Bool) (xs : List X) → ((x : X) → p x ≡ true → q x ≡ true)
    → filter p (filter q xs) ≡ filter p xs
filter_within p q [] wider = refl
filter_within p q (x ∷ xs) wider = by (p x) (q x) refl refl (wider x) (filter_within p q xs wider)
  where
    by : (a b : Bool) → p x ≡ a → q x ≡ b → (p x ≡ true → q x ≡ true) → filter p (filter q xs) ≡ filter p xs
        → filter p (filter q (x ∷ xs)) ≡ filter p (x ∷ xs)
    by a true e f h rest = rw (f, e) (ap (λ l. cond a (x ∷ l) l) rest)
    by false false e f h rest = rw (f, e) rest
    by true false e f h rest = absurd (true≢false (sym (h e) ∙ f))

-- two functions that agree at each element give one list
pub flat_map_agree : {X A : Type 0} (f g : X → List A) (xs : List X) → All (λ x. f x ≡ g x) xs
    → flat_map f xs ≡ flat_map g xs
flat_map_agree f g [] same = refl
flat_map_agree f g (x ∷ xs) same =
    ap (λ l. l ++ flat_map f xs) (All-head (λ x. f x ≡ g x) x xs same)
    ∙ ap (λ l. g x ++ l) (flat_map_agree f g xs (All-tail (λ x. f x ≡ g x) x xs same))

module _ {X : Type 0} (eq : X → X → Bool) (laws : IsEquivalence eq) where
  -- an element is the first of its class
  abbrev pub IsFirst : List X → X → Type 0
  IsFirst xs e = (rest : List X) × (filter (eq e) xs ≡ e ∷ rest)

  -- each of the different elements is
  pub firsts : (xs : List X) → All (IsFirst xs) (distinct eq xs)
  firsts [] = All-nil (IsFirst [])
  firsts (x ∷ xs) =
      All-cons (IsFirst (x ∷ xs)) x (filter (λ y. not (eq x y)) (distinct eq xs))
      (filter (eq x) xs, ap (λ b. cond b (x ∷ filter (eq x) xs) (filter (eq x) xs)) (laws.refl x))
      (λ k d lt.
      behind _ (filter_passes (λ y. not (eq x y)) (distinct eq xs) k d lt)
      (All-filter (λ y. not (eq x y)) (IsFirst xs) (distinct eq xs) (firsts xs) k d lt))
    where
      behind : (e : X) → not (eq x e) ≡ true → IsFirst xs e → IsFirst (x ∷ xs) e
      behind e other (rest, is) = (
        rest,
        ap (λ b. cond b (x ∷ filter (eq e) xs) (filter (eq e) xs))
            (laws.symm e x ∙ not-true (eq x e) other) ∙ is,
      )

  -- the different elements are apart
  pub IsDistinct-distinct : (xs : List X) → IsDistinct eq (distinct eq xs)
  IsDistinct-distinct [] = IsDistinct-from_apart eq [] (λ i j d before lt. absurd (omega arith))
  IsDistinct-distinct (x ∷ xs) =
      IsDistinct-cons eq x (filter (λ y. not (eq x y)) (distinct eq xs))
      (recursion_from_All (λ y. eq x y ≡ false) (filter (λ y. not (eq x y)) (distinct eq xs))
      (λ k d lt. not-true _ (filter_passes (λ y. not (eq x y)) (distinct eq xs) k d lt)))
      (IsDistinct-filter eq (λ y. not (eq x y)) (distinct eq xs) (IsDistinct-distinct xs))

  -- no two of the different elements are of one class
  pub one_class : (xs : List X) (i j : ℕ) (d : X) → i < length (distinct eq xs) → j < length (distinct eq xs)
      → eq (get_or (distinct eq xs) i d) (get_or (distinct eq xs) j d) ≡ true → i ≡ j
  one_class xs i j d lt_i lt_j same = by (cases_order i j)
    where
      by : (i ≡ j) ⊎ ((i < j) ⊎ (j < i)) → i ≡ j
      by (inl e) = e
      by (inr (inl before)) =
          absurd (true≢false (sym same
          ∙ apart_from_distinct eq (distinct eq xs) i j d (IsDistinct-distinct xs) before lt_j))
      by (inr (inr after)) =
          absurd (true≢false (sym same ∙ laws.symm _ _
          ∙ apart_from_distinct eq (distinct eq xs) j i d (IsDistinct-distinct xs) after lt_i))

  -- each element is of the class of a different one
  pub found_in : (xs : List X) → All (λ y. list_any (eq y) (distinct eq xs) ≡ true) xs
  found_in xs k d lt = list_any-distinct eq laws (get_or xs k d) xs
      ∙ list_any_at (eq (get_or xs k d)) xs k d lt (laws.refl (get_or xs k d))

  pub in_a_class : (xs : List X) → All (λ y. Any (λ e. eq y e ≡ true) (distinct eq xs)) xs
  in_a_class xs k d lt = Any-from_list_any (eq (get_or xs k d)) (distinct eq xs) (found_in xs k d lt)

  -- elements that are apart split a list into the classes that they find
  by_class : (ds ys : List X) → IsDistinct eq ds → All (λ y. list_any (eq y) ds ≡ true) ys
      → IsPermutation ys (flat_map (λ e. filter (eq e) ys) ds)
  by_class [] [] apart found = IsPermutation-refl []
  by_class [] (y ∷ ys) apart found = absurd (true≢false (sym (All-head (λ y. false ≡ true) y ys found)))
  by_class (e ∷ ds) ys apart found =
      IsPermutation-trans ys (filter (eq e) ys ++ others)
      (filter (eq e) ys ++ flat_map (λ f. filter (eq f) ys) ds)
      (IsPermutation-filter_both (eq e) (λ y. not (eq e y)) (λ y. refl) ys)
      (IsPermutation-append_right (filter (eq e) ys) others (flat_map (λ f. filter (eq f) ys) ds)
      (subst (IsPermutation others) same (by_class ds others (IsDistinct-tail eq e ds apart) left)))
    where
      others : List X
      others = filter (λ y. not (eq e y)) ys

      still : (y : X) → not (eq e y) ≡ true → list_any (eq y) (e ∷ ds) ≡ true → list_any (eq y) ds ≡ true
      still y other found = sym (ap (λ b. b || list_any (eq y) ds) (laws.symm y e ∙ not-true (eq e y) other))
          ∙ found

      left : All (λ y. list_any (eq y) ds ≡ true) (filter (λ y. not (eq e y)) ys)
      left k d lt =
          still _ (filter_passes (λ y. not (eq e y)) ys k d lt)
          (All-filter (λ y. not (eq e y)) (λ y. list_any (eq y) (e ∷ ds) ≡ true) ys found k d lt)

      kept : (f : X) → eq e f ≡ false → filter (eq f) (filter (λ y. not (eq e y)) ys) ≡ filter (eq f) ys
      kept f other =
          filter_within (eq f) (λ y. not (eq e y)) ys
          (λ y same. ap not (laws.symm e y ∙ sym (laws.congr f y e same) ∙ laws.symm f e ∙ other))

      same : flat_map (λ f. filter (eq f) (filter (λ y. not (eq e y)) ys)) ds
          ≡ flat_map (λ f. filter (eq f) ys) ds
      same =
          flat_map_agree (λ f. filter (eq f) (filter (λ y. not (eq e y)) ys)) (λ f. filter (eq f) ys) ds
          (λ k d lt. kept _ (All-from_recursion (λ f. eq e f ≡ false) ds
          (IsDistinct-head eq e ds apart) k d lt))

  -- a list is its classes, in another order
  pub classes : (xs : List X) → IsPermutation xs (flat_map (λ e. filter (eq e) xs) (distinct eq xs))
  classes xs = by_class (distinct eq xs) xs (IsDistinct-distinct xs) (found_in xs)
