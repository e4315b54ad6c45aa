-- Signals put into items one by one.
use Rattle.std.proofs.Common.{◌≡◌, ◌+◌, ◌⊎◌, inl, inr, ℕ, Bool, true, false, cond, filter, not, ◌||◌, List, [], ◌∷◌, ◌++◌, map, get_or, suc, if◌then◌else◌, refl, sym, ap, ◌∙◌, arith, All, append-nil}
use Rattle.std.specs.List.{list_any, position_or_len, IsDistinct, AllByRecursion}
use Rattle.std.proofs.lemmas.Bool.{not-true, or_parts}
use Rattle.std.proofs.lemmas.List.{map-append}
use Rattle.std.proofs.lemmas.List.Elements.{All-nil, All-cons, All-head, All-tail, All-from_recursion, recursion_from_All, All-filter, All-weaker, filter-append, filter_passes}
use Rattle.std.proofs.lemmas.Map.Keys.{IsDistinct-cons, IsDistinct-head, IsDistinct-tail}
use Rattle.indexmap.specs.IndexSet.{insert_key}
use Rattle.pack_model.specs.declared.signal.Signal.{Signal}
use Rattle.pack_model.specs.Items.{places_with, groups_of, put_at}
use Rattle.pack_model.specs.Problem.{distinct, same_item}
use Rattle.pack_model.proofs.Classes.{All-distinct}
use Rattle.pack_model.proofs.SameItem.{same_item_equivalence}
use Rattle.pack_model.proofs.Distinct.{distinct-push, list_any-distinct}

-- what passes a test of elements of which something holds
All-passing : {X : Type 0} (p : X → Bool) (P Q : X → Type 0) (xs : List X)
    → ((x : X) → p x ≡ true → P x → Q x) → All P xs → All Q (filter p xs)
All-passing p P Q [] then' all = All-nil Q
All-passing p P Q (x ∷ xs) then' all = by (p x) refl (All-passing p P Q xs then' (All-tail P x xs all))
  where
    by : (b : Bool) → p x ≡ b → All Q (filter p xs) → All Q (cond b (x ∷ filter p xs) (filter p xs))
    by true e rest = All-cons Q x (filter p xs) (then' x e (All-head P x xs all)) rest
    by false e rest = rest

module _ {X : Type 0} (eq : X → X → Bool) where
  -- what is kept of different elements is different
  filter_apart : (p : X → Bool) (xs : List X) → IsDistinct eq xs → IsDistinct eq (filter p xs)
  unfolding IsDistinct
  filter_apart p [] apart = tt
  filter_apart p (x ∷ xs) apart = by (p x) (filter_apart p xs (IsDistinct-tail eq x xs apart))
    where
      by : (b : Bool) → IsDistinct eq (filter p xs) → IsDistinct eq (cond b (x ∷ filter p xs) (filter p xs))
      by true rest =
          IsDistinct-cons eq x (filter p xs)
          (recursion_from_All (λ y. eq x y ≡ false) (filter p xs)
          (All-filter p (λ y. eq x y ≡ false) xs
          (All-from_recursion (λ y. eq x y ≡ false) xs (IsDistinct-head eq x xs apart))))
          rest
      by false rest = rest

  -- the different elements differ from one another
  pub distinct_apart : (xs : List X) → IsDistinct eq (distinct eq xs)
  unfolding IsDistinct
  distinct_apart [] = tt
  distinct_apart (x ∷ xs) =
      IsDistinct-cons eq x (filter (λ y. not (eq x y)) (distinct eq xs))
      (recursion_from_All (λ y. eq x y ≡ false) (filter (λ y. not (eq x y)) (distinct eq xs))
      (All-weaker (λ y. not (eq x y) ≡ true) (λ y. eq x y ≡ false) (λ y e. not-true (eq x y) e)
      (filter (λ y. not (eq x y)) (distinct eq xs)) (filter_passes (λ y. not (eq x y)) (distinct eq xs))))
      (filter_apart (λ y. not (eq x y)) (distinct eq xs) (distinct_apart xs))

-- one more signal comes to its item alone
places_more : (front : List (ℕ × Signal)) (f e : ℕ × Signal)
    → places_with (front ++ e ∷ []) f ≡ places_with front f ++ cond (same_item f e) (e.0 ∷ []) []
places_more front f e =
    ap (map (λ (g : ℕ × Signal). g.0)) (filter-append (same_item f) front (e ∷ []))
    ∙ map-append (λ (g : ℕ × Signal). g.0) (filter (same_item f) front) (cond (same_item f e) (e ∷ []) [])
    ∙ ap (λ l. places_with front f ++ l) (by (same_item f e))
  where
    by : (b : Bool) → map (λ (g : ℕ × Signal). g.0) (cond b (e ∷ []) []) ≡ cond b (e.0 ∷ []) []
    by true = refl
    by false = refl

-- an item of which there is no signal yet
none_with : (front : List (ℕ × Signal)) (e : ℕ × Signal) → list_any (same_item e) front ≡ false
    → places_with front e ≡ []
none_with [] e none = refl
none_with (x ∷ xs) e none =
    let parts = or_parts (same_item e x) (list_any (same_item e) xs) none in
    ap (λ b. map (λ (g : ℕ × Signal). g.0)
    (cond b (x ∷ filter (same_item e) xs) (filter (same_item e) xs))) parts.0 ∙ none_with xs e parts.1

-- the items that a signal is not of stay
kept : (front gs : List (ℕ × Signal)) (e f : ℕ × Signal) → same_item e f ≡ true
    → AllByRecursion (λ g. same_item f g ≡ false) gs
    → map (places_with front) gs ≡ map (places_with (front ++ e ∷ [])) gs
kept front [] e f same apart = refl
kept front (g ∷ gs) e f same apart =
    let other : same_item g e ≡ false = same_item_equivalence.symm g e
    ∙ same_item_equivalence.congr e f g same
    ∙ apart.0 in
    let here : places_with front g ≡ places_with (front ++ e ∷ []) g =
    sym (places_more front g e ∙ ap (λ b. places_with front g ++ cond b (e.0 ∷ []) []) other
    ∙ append-nil (places_with front g)) in
    let rest = kept front gs e f same apart.1 in
    λ i. here i ∷ rest i

-- the step of the lists of places: one more signal goes to the list of its item, or alone in a new one
put_step : (front fs : List (ℕ × Signal)) (e : ℕ × Signal) → IsDistinct same_item fs
    → (list_any (same_item e) fs ≡ false → places_with front e ≡ [])
    → put_at (position_or_len (same_item e) fs) e.0 (map (places_with front) fs)
    ≡ map (places_with (front ++ e ∷ [])) (cond (list_any (same_item e) fs) fs (fs ++ e ∷ []))
put_step front [] e apart none =
    sym (ap (λ l. l ∷ []) (places_more front e e
    ∙ ap (λ b. places_with front e ++ cond b (e.0 ∷ []) []) (same_item_equivalence.refl e)
    ∙ ap (λ l. l ++ e.0 ∷ []) (none refl)))
put_step front (f ∷ fs) e apart none =
    by (same_item e f) refl (put_step front fs e (IsDistinct-tail same_item f fs apart))
  where
    by : (b : Bool) → same_item e f ≡ b
        → ((list_any (same_item e) fs ≡ false → places_with front e ≡ [])
        → put_at (position_or_len (same_item e) fs) e.0 (map (places_with front) fs)
        ≡ map (places_with (front ++ e ∷ [])) (cond (list_any (same_item e) fs) fs (fs ++ e ∷ [])))
        → put_at (position_or_len (same_item e) (f ∷ fs)) e.0 (map (places_with front) (f ∷ fs))
        ≡ map (places_with (front ++ e ∷ []))
        (cond (list_any (same_item e) (f ∷ fs)) (f ∷ fs) ((f ∷ fs) ++ e ∷ []))
    by true same rest =
        let here : places_with front f ++ e.0 ∷ [] ≡ places_with (front ++ e ∷ []) f =
        sym (places_more front f e
        ∙ ap (λ b. places_with front f ++ cond b (e.0 ∷ []) []) (same_item_equivalence.symm f e ∙ same)) in
        let others = kept front fs e f same (IsDistinct-head same_item f fs apart) in
        ap (λ b. put_at (cond (not b) (1 + position_or_len (same_item e) fs) 0) e.0
        (map (places_with front) (f ∷ fs))) same
        ∙ (λ i. here i ∷ others i)
        ∙ sym (ap (λ b. map (places_with (front ++ e ∷ []))
        (cond (b || list_any (same_item e) fs) (f ∷ fs) ((f ∷ fs) ++ e ∷ []))) same)
    by false differ rest =
        let here : places_with front f ≡ places_with (front ++ e ∷ []) f =
        sym (places_more front f e
        ∙ ap (λ b. places_with front f ++ cond b (e.0 ∷ []) []) (same_item_equivalence.symm f e ∙ differ)
        ∙ append-nil (places_with front f)) in
        let next : 1 + position_or_len (same_item e) fs ≡ suc (position_or_len (same_item e) fs) =
        omega arith in
        let later = rest (λ absent. none (ap (λ b. b || list_any (same_item e) fs) differ ∙ absent)) in
        ap (λ b. put_at (cond (not b) (1 + position_or_len (same_item e) fs) 0) e.0
        (map (places_with front) (f ∷ fs))) differ
        ∙ ap (λ n. put_at n e.0 (map (places_with front) (f ∷ fs))) next
        ∙ (λ i. here i ∷ later i)
        ∙ sym (split (list_any (same_item e) fs))
        ∙ sym (ap (λ b. map (places_with (front ++ e ∷ []))
        (cond (b || list_any (same_item e) fs) (f ∷ fs) ((f ∷ fs) ++ e ∷ []))) differ)
      where
        split : (b : Bool) → map (places_with (front ++ e ∷ [])) (cond b (f ∷ fs) ((f ∷ fs) ++ e ∷ []))
            ≡ places_with (front ++ e ∷ []) f ∷ map (places_with (front ++ e ∷ [])) (cond b fs (fs ++ e ∷ []))
        split true = refl
        split false = refl

-- the lists of places after one more signal
pub groups_step : (front : List (ℕ × Signal)) (e : ℕ × Signal)
    → put_at (position_or_len (same_item e) (distinct same_item front)) e.0 (groups_of front)
    ≡ groups_of (front ++ e ∷ [])
groups_step front e =
    put_step front (distinct same_item front) e (distinct_apart same_item front)
    (λ absent. none_with front e (sym (list_any-distinct same_item same_item_equivalence e front) ∙ absent))
    ∙ ap (map (places_with (front ++ e ∷ []))) (sym (distinct-push same_item same_item_equivalence front e))

-- each first signal comes first among those of its item
pub heads : (front : List (ℕ × Signal))
    → All (λ f. (d : ℕ) → get_or (places_with front f) 0 d ≡ f.0) (distinct same_item front)
heads [] = All-nil (λ (f : ℕ × Signal). (d : ℕ) → get_or (places_with [] f) 0 d ≡ f.0)
heads (x ∷ xs) =
    All-cons (λ (f : ℕ × Signal). (d : ℕ) → get_or (places_with (x ∷ xs) f) 0 d ≡ f.0) x
    (filter (λ y. not (same_item x y)) (distinct same_item xs))
    (λ d. ap (λ b. get_or (map (λ (g : ℕ × Signal). g.0)
    (cond b (x ∷ filter (same_item x) xs) (filter (same_item x) xs))) 0 d) (same_item_equivalence.refl x))
    (All-passing (λ y. not (same_item x y))
    (λ (f : ℕ × Signal). (d : ℕ) → get_or (places_with xs f) 0 d ≡ f.0)
    (λ (f : ℕ × Signal). (d : ℕ) → get_or (places_with (x ∷ xs) f) 0 d ≡ f.0) (distinct same_item xs)
    (λ f apart first d. ap (λ b.
    get_or (map (λ (g : ℕ × Signal). g.0)
    (cond b (x ∷ filter (same_item f) xs) (filter (same_item f) xs))) 0 d)
    (same_item_equivalence.symm f x ∙ not-true (same_item x f) apart) ∙ first d)
    (heads xs))

-- the first of the list that a place is put in: the place itself, or that of the first signal of the item
first_in : (Q : ℕ × Signal → Type 0) (front fs : List (ℕ × Signal)) (e : ℕ × Signal)
    → All (λ f. (d : ℕ) → get_or (places_with front f) 0 d ≡ f.0) fs → All Q fs
    → ((list_any (same_item e) fs ≡ false)
    × (get_or (get_or (map (places_with front) fs) (position_or_len (same_item e) fs) []) 0 e.0 ≡ e.0))
    ⊎ ((f : ℕ × Signal) × (same_item e f ≡ true) × Q f
    × (get_or (get_or (map (places_with front) fs) (position_or_len (same_item e) fs) []) 0 e.0 ≡ f.0))
first_in Q front [] e heads all = inl (refl, refl)
first_in Q front (f ∷ fs) e heads all =
    by (same_item e f) refl (first_in Q front fs e
    (All-tail (λ (f : ℕ × Signal). (d : ℕ) → get_or (places_with front f) 0 d ≡ f.0) f fs heads)
    (All-tail Q f fs all))
  where
    by : (b : Bool) → same_item e f ≡ b
        → ((list_any (same_item e) fs ≡ false)
        × (get_or (get_or (map (places_with front) fs) (position_or_len (same_item e) fs) []) 0 e.0
        ≡ e.0))
        ⊎ ((f : ℕ × Signal) × (same_item e f ≡ true) × Q f
        × (get_or (get_or (map (places_with front) fs) (position_or_len (same_item e) fs) []) 0 e.0
        ≡ f.0))
        → ((list_any (same_item e) (f ∷ fs) ≡ false)
        × (get_or (get_or (map (places_with front) (f ∷ fs))
        (position_or_len (same_item e) (f ∷ fs)) []) 0 e.0 ≡ e.0))
        ⊎ ((g : ℕ × Signal) × (same_item e g ≡ true) × Q g
        × (get_or (get_or (map (places_with front) (f ∷ fs))
        (position_or_len (same_item e) (f ∷ fs)) []) 0 e.0 ≡ g.0))
    by true same rest =
        inr (
          f,
          same,
          All-head Q f fs all,
          ap (λ b. get_or (get_or (map (places_with front) (f ∷ fs))
              (cond (not b) (1 + position_or_len (same_item e) fs) 0) []) 0 e.0) same
              ∙ All-head (λ (f : ℕ × Signal). (d : ℕ) → get_or (places_with front f) 0 d ≡ f.0) f fs heads
              e.0,
        )
    by false differ rest =
        let next : 1 + position_or_len (same_item e) fs ≡ suc (position_or_len (same_item e) fs) =
        omega arith in
        let on : get_or (get_or (map (places_with front) (f ∷ fs))
        (position_or_len (same_item e) (f ∷ fs)) []) 0 e.0
        ≡ get_or (get_or (map (places_with front) fs) (position_or_len (same_item e) fs) []) 0 e.0 =
        ap (λ b. get_or (get_or (map (places_with front) (f ∷ fs))
        (cond (not b) (1 + position_or_len (same_item e) fs) 0) []) 0 e.0) differ
        ∙ ap (λ n. get_or (get_or (map (places_with front) (f ∷ fs)) n []) 0 e.0) next in
        elim rest [
          | inl none ↦ inl (ap (λ b. b || list_any (same_item e) fs) differ ∙ none.0, on ∙ none.1)
          | inr some ↦ inr (some.0, some.1, some.2, on ∙ some.3)
        ]

-- the same of the lists of the signals so far
pub first_found : (Q : ℕ × Signal → Type 0) (front : List (ℕ × Signal)) (e : ℕ × Signal) → All Q front
    → ((list_any (same_item e) front ≡ false)
    × (get_or (get_or (groups_of front)
    (position_or_len (same_item e) (distinct same_item front)) []) 0 e.0 ≡ e.0))
    ⊎ ((f : ℕ × Signal) × (same_item e f ≡ true) × Q f
    × (get_or (get_or (groups_of front)
    (position_or_len (same_item e) (distinct same_item front)) []) 0 e.0 ≡ f.0))
first_found Q front e all =
    elim (first_in Q front (distinct same_item front) e (heads front) (All-distinct same_item Q front all)) [
      | inl none ↦ inl (sym (list_any-distinct same_item same_item_equivalence e front) ∙ none.0, none.1)
      | inr some ↦ inr some
    ]

-- numbering by keys that are equal where the signals are of one item
module _ {K : Type 0} (eq : K → K → Bool) (key : ℕ × Signal → K)
    (same : (e f : ℕ × Signal) → eq (key e) (key f) ≡ same_item e f) where
  list_any-key : (e : ℕ × Signal) (fs : List (ℕ × Signal))
      → list_any (eq (key e)) (map key fs) ≡ list_any (same_item e) fs
  list_any-key e [] = refl
  list_any-key e (f ∷ fs) = ap (λ b. b || list_any (eq (key e)) (map key fs)) (same e f)
      ∙ ap (λ b. same_item e f || b) (list_any-key e fs)

  pub position-key : (e : ℕ × Signal) (fs : List (ℕ × Signal))
      → position_or_len (eq (key e)) (map key fs) ≡ position_or_len (same_item e) fs
  position-key e [] = refl
  position-key e (f ∷ fs) =
      ap (λ b. cond (not b) (1 + position_or_len (eq (key e)) (map key fs)) 0) (same e f)
      ∙ ap (λ n. cond (not (same_item e f)) (1 + n) 0) (position-key e fs)

  -- the keys after one more signal
  pub keys_step : (front : List (ℕ × Signal)) (e : ℕ × Signal)
      → insert_key eq (map key (distinct same_item front)) (key e)
      ≡ map key (distinct same_item (front ++ e ∷ []))
  keys_step front e =
      ap (λ b. if b then map key (distinct same_item front)
      else map key (distinct same_item front) ++ key e ∷ []) (list_any-key e (distinct same_item front))
      ∙ by (list_any (same_item e) (distinct same_item front))
      ∙ ap (map key) (sym (distinct-push same_item same_item_equivalence front e))
    where
      by : (b : Bool) → (if b then map key (distinct same_item front)
          else map key (distinct same_item front) ++ key e ∷ [])
          ≡ map key (cond b (distinct same_item front) (distinct same_item front ++ e ∷ []))
      by true = refl
      by false = sym (map-append key (distinct same_item front) (e ∷ []))
