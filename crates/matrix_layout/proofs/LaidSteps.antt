-- The steps of the loop that gathers the classes.
use Rattle.std.proofs.Common.{◌≡◌, ℕ, ◌+◌, ◌<◌, ◌⊎◌, cond, List, [], ◌∷◌, ◌++◌, length, map, take, get_or, set, inl, inr, refl, sym, ap, ◌∙◌, arith, append-nil, eq-eqb}
use Rattle.std.specs.List.{range_with_len}
use Rattle.std.proofs.lemmas.Bool.{cases_eq, ne_eqb}
use Rattle.std.proofs.lemmas.List.{map-set, get_or-map, length-map, length-set, ext_get_or, get_or-set_same, get_or-set_other}
use Rattle.std.proofs.lemmas.List.FromFn.{length-map-range_with_len, get_or-map-range_with_len}
use Rattle.class_frame.specs.Grouping.{class_of}
use Rattle.class_frame.proofs.GroupingLaws.{class_of-more}

-- there are as many lists as classes
pub length_of_classes : {X Y : Type 0} (vecs : List X) (f : X → List Y) (g : ℕ → List Y) (classes : ℕ)
    → map f vecs ≡ map g (range_with_len 0 classes) → length vecs ≡ classes
length_of_classes vecs f g classes so_far = sym (length-map vecs f) ∙ ap length so_far
    ∙ length-map-range_with_len g 0 classes

module _ {Y : Type 0} (labels : List ℕ) (ys : List Y) (classes i : ℕ) (y : Y)
    (same : length labels ≡ length ys) (lt : i < length ys) (at : y ≡ get_or ys i y)
    (below : get_or labels i 0 < classes) where
  -- the classes of the first elements
  abbrev first_classes : ℕ → ℕ → List Y
  first_classes n k = class_of k (take n labels) (take n ys)

  -- the classes with one more element
  classes_more : (lists : List (List Y)) → lists ≡ map (first_classes i) (range_with_len 0 classes)
      → set lists (get_or labels i 0) (get_or lists (get_or labels i 0) [] ++ y ∷ [])
      ≡ map (first_classes (i + 1)) (range_with_len 0 classes)
  classes_more lists so_far =
      let label = get_or labels i 0 in
      let long : length lists ≡ classes = ap length so_far
      ∙ length-map-range_with_len (first_classes i) 0 classes in
      let read = λ (k : ℕ) (within : k < classes). ap (λ ps. get_or ps k []) so_far
      ∙ get_or-map-range_with_len (first_classes i) 0 classes k k [] within (omega arith) in
      ext_get_or [] (set lists label (get_or lists label [] ++ y ∷ []))
      (map (first_classes (i + 1)) (range_with_len 0 classes))
      (length-set _ _ _ ∙ long ∙ sym (length-map-range_with_len (first_classes (i + 1)) 0 classes))
      (λ k within.
      let in_all : k < classes =
      omega (arith, within, long, length-set lists label (get_or lists label [] ++ y ∷ [])) in
      at_class k in_all long read (cases_eq k label)
      ∙ sym (get_or-map-range_with_len (first_classes (i + 1)) 0 classes k k [] in_all (omega arith)))
    where
      at_class : (k : ℕ) → k < classes → length lists ≡ classes
          → ((m : ℕ) → m < classes → get_or lists m [] ≡ first_classes i m)
          → (k ≡ get_or labels i 0) ⊎ (k ≡ get_or labels i 0 → ⊥)
          → get_or (set lists (get_or labels i 0) (get_or lists (get_or labels i 0) [] ++ y ∷ [])) k []
          ≡ first_classes (i + 1) k
      at_class k in_all long read (inl e) =
          let inside : get_or labels i 0 < length lists = omega arith in
          ap (λ m. get_or (set lists (get_or labels i 0) (get_or lists (get_or labels i 0) [] ++ y ∷ []))
          m []) e
          ∙ get_or-set_same lists (get_or labels i 0)
          (get_or lists (get_or labels i 0) [] ++ y ∷ []) [] inside
          ∙ ap (λ zs. zs ++ y ∷ []) (read (get_or labels i 0) below)
          ∙ ap (λ b. first_classes i (get_or labels i 0) ++ cond b (y ∷ []) [])
          (sym (eq-eqb (get_or labels i 0) (get_or labels i 0) refl))
          ∙ sym (class_of-more (get_or labels i 0) labels ys i y same lt at)
          ∙ ap (first_classes (i + 1)) (sym e)
      at_class k in_all long read (inr differ) =
          get_or-set_other lists (get_or labels i 0) k
          (get_or lists (get_or labels i 0) [] ++ y ∷ []) [] differ
          ∙ read k in_all
          ∙ sym (append-nil (first_classes i k))
          ∙ ap (λ b. first_classes i k ++ cond b (y ∷ []) [])
          (sym (ne_eqb (get_or labels i 0) k (λ e. differ (sym e))))
          ∙ sym (class_of-more k labels ys i y same lt at)

  -- the lists of the classes with one more element
  pub lists_more : {X : Type 0} (vecs : List X) (f : X → List Y) (old new : X)
      → map f vecs ≡ map (first_classes i) (range_with_len 0 classes)
      → old ≡ get_or vecs (get_or labels i 0) old → f new ≡ f old ++ y ∷ []
      → map f (set vecs (get_or labels i 0) new) ≡ map (first_classes (i + 1)) (range_with_len 0 classes)
  lists_more vecs f old new so_far was more =
      let inside : get_or labels i 0 < length vecs =
      omega (arith, length_of_classes vecs f (first_classes i) classes so_far) in
      let read : get_or (map f vecs) (get_or labels i 0) [] ≡ f old =
      get_or-map f vecs (get_or labels i 0) old [] inside ∙ ap f (sym was) in
      map-set f vecs (get_or labels i 0) new
      ∙ ap (set (map f vecs) (get_or labels i 0)) (more ∙ ap (λ zs. zs ++ y ∷ []) (sym read))
      ∙ classes_more (map f vecs) so_far
