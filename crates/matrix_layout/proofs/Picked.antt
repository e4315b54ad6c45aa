-- Elements of a list picked by their numbers.
use Rattle.std.proofs.Common.{◌≡◌, ℕ, ◌+◌, ◌<◌, List, [], ◌∷◌, ◌++◌, length, take, drop, get_or, suc, zero, All, Some, refl, sym, ap, subst, ◌∙◌, arith, add-one, drop-cons}
use Rattle.std.specs.List.{cons_option, filter_map, slice_get}
use Rattle.std.proofs.lemmas.List.{get_or_default, take_more}
use Rattle.std.proofs.lemmas.List.Elements.{All-head, All-tail, filter_map-append}
use Rattle.std.proofs.lemmas.Option.{slice_get-get_or}
use Rattle.pack_model.proofs.Laws.{element}

module _ {X : Type 0} where
  -- the element of a number that is there
  pub pick-cons : (xs : List X) (p : ℕ) (ps : List ℕ) (x : X) → p < length xs → x ≡ get_or xs p x
      → filter_map (slice_get xs) (p ∷ ps) ≡ x ∷ filter_map (slice_get xs) ps
  pick-cons xs p ps x lt at =
      ap (λ o. cons_option o (filter_map (slice_get xs) ps))
      (slice_get-get_or xs p x lt ∙ ap (λ t. Some t) (sym at))

  -- there is an element for each number
  pub length-pick : (xs : List X) (ps : List ℕ) → All (λ p. p < length xs) ps
      → length (filter_map (slice_get xs) ps) ≡ length ps
  length-pick xs [] inside = refl
  length-pick xs (p ∷ ps) inside =
      let lt = All-head (λ p. p < length xs) p ps inside in
      let x = element xs p lt in
      ap length (pick-cons xs p ps x.0 lt x.1)
      ∙ ap suc (length-pick xs ps (All-tail (λ p. p < length xs) p ps inside))

  -- the element of each number
  pub get_or-pick : (xs : List X) (ps : List ℕ) → All (λ p. p < length xs) ps → (k : ℕ) (d : X)
      → k < length ps → get_or (filter_map (slice_get xs) ps) k d ≡ get_or xs (get_or ps k 0) d
  get_or-pick xs [] inside k d lt = absurd (omega arith)
  get_or-pick xs (p ∷ ps) inside k d lt =
      let here = All-head (λ p. p < length xs) p ps inside in
      let x = element xs p here in
      ap (λ ys. get_or ys k d) (pick-cons xs p ps x.0 here x.1)
      ∙ by k x.0 here x.1 lt (λ m within. get_or-pick xs ps
      (All-tail (λ p. p < length xs) p ps inside) m d within)
    where
      by : (k : ℕ) (x : X) → p < length xs → x ≡ get_or xs p x → k < length (p ∷ ps)
          → ((m : ℕ) → m < length ps
          → get_or (filter_map (slice_get xs) ps) m d ≡ get_or xs (get_or ps m 0) d)
          → get_or (x ∷ filter_map (slice_get xs) ps) k d ≡ get_or xs (get_or (p ∷ ps) k 0) d
      by zero x here at lt rest = at ∙ get_or_default xs p x d here
      by (suc m) x here at lt rest = rest m (omega arith)

  -- what holds of each element holds of those that are picked
  pub All-pick : (P : X → Type 0) (xs : List X) (ps : List ℕ) → All P xs → All (λ p. p < length xs) ps
      → All P (filter_map (slice_get xs) ps)
  All-pick P xs ps all inside = λ k d lt.
      let within : k < length ps = omega (arith, lt, length-pick xs ps inside) in
      subst P (sym (get_or-pick xs ps inside k d within)) (all (get_or ps k 0) d (inside k 0 within))

  -- one more number
  pub pick-more : (xs : List X) (ps : List ℕ) (i : ℕ) (x : X) → i < length ps → get_or ps i 0 < length xs
      → x ≡ get_or xs (get_or ps i 0) x
      → filter_map (slice_get xs) (take (i + 1) ps) ≡ filter_map (slice_get xs) (take i ps) ++ x ∷ []
  pick-more xs ps i x within lt at =
      ap (filter_map (slice_get xs)) (take_more ps i 0 within)
      ∙ filter_map-append (slice_get xs) (take i ps) (get_or ps i 0 ∷ [])
      ∙ ap (λ ys. filter_map (slice_get xs) (take i ps) ++ ys) (pick-cons xs (get_or ps i 0) [] x lt at)

  -- one fewer number is left
  pub pick-left : (xs : List X) (ps : List ℕ) (i : ℕ) (x : X) → i < length ps → get_or ps i 0 < length xs
      → x ≡ get_or xs (get_or ps i 0) x
      → filter_map (slice_get xs) (drop i ps) ≡ x ∷ filter_map (slice_get xs) (drop (i + 1) ps)
  pick-left xs ps i x within lt at =
      ap (filter_map (slice_get xs))
      (drop-cons ps i 0 within ∙ ap (λ m. get_or ps i 0 ∷ drop m ps) (sym (add-one i)))
      ∙ pick-cons xs (get_or ps i 0) (drop (i + 1) ps) x lt at
