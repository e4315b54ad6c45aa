-- Labels by first use of numbers that stand for classes, and the numbers in use in a row.
use Rattle.std.proofs.Common.{◌≡◌, ℕ, ◌+◌, ◌-◌, ◌<◌, ◌≤◌, ◌⊎◌, Bool, true, false, cond, List, [], ◌∷◌, ◌++◌, length, map, filter, take, get_or, max, nat_eq, Any, suc, zero, inl, inr, refl, sym, ap, ◌∙◌, arith, append-nil, eq-eqb}
use Rattle.std.specs.List.{list_any, range_with_len}
use Rattle.std.proofs.lemmas.Bool.{cases_lt, ne_eqb, eqb-true}
use Rattle.std.proofs.lemmas.Cmp.{nat_eq_equiv}
use Rattle.std.proofs.lemmas.List.{take_more, length-map, get_or-map, ext_get_or, take_all, map_push}
use Rattle.std.proofs.lemmas.List.Elements.{filter-append}
use Rattle.std.proofs.lemmas.List.Folds.{list_any_at, Any-from_list_any}
use Rattle.std.proofs.lemmas.List.FromFn.{length-map-range_with_len, get_or-map-range_with_len, map-range_with_len_more}
use Rattle.std.proofs.lemmas.List.Sums.{position_or_len_is}
use Rattle.pack_model.specs.Problem.{distinct}
use Rattle.class_frame.specs.Grouping.{classes_of}
use Rattle.pack_model.proofs.Distinct.{distinct-push}
use Rattle.class_frame.proofs.GroupingLaws.{classes_of-push, label-lt-classes_of}
use Rattle.placed_matrix.specs.Frames.{label_in}

-- numbers below n that stand for numbers that differ
module _ (f : ℕ → ℕ) (n : ℕ) (apart : (k l : ℕ) → k < n → l < n → f k ≡ f l → k ≡ l) where
  -- a number among the first is found
  found_in : (m l : ℕ) → l < m → list_any (nat_eq (f l)) (map f (range_with_len 0 m)) ≡ true
  found_in m l lt =
      let within : l < length (map f (range_with_len 0 m)) = omega (arith, length-map-range_with_len f 0 m) in
      list_any_at (nat_eq (f l))
      (map f (range_with_len 0 m)) l 0
      within (ap (nat_eq (f l)) (get_or-map-range_with_len f 0 m l l 0 lt (omega arith))
      ∙ eq-eqb (f l) (f l) refl)

  -- one after them is not
  not_in : (m l : ℕ) → m ≤ l → l < n → list_any (nat_eq (f l)) (map f (range_with_len 0 m)) ≡ false
  not_in m l ge lt = by (list_any (nat_eq (f l)) (map f (range_with_len 0 m))) refl
    where
      no : Any (λ x. nat_eq (f l) x ≡ true) (map f (range_with_len 0 m)) → ⊥
      no (k, x, within, at, e) =
          let low : k < m = omega (arith, length-map-range_with_len f 0 m) in
          let same : f l ≡ f k = eqb-true (f l) x e ∙ sym at
          ∙ get_or-map-range_with_len f 0 m k k x low (omega arith) in
          let equal : l ≡ k = apart l k lt (omega arith) same in
          omega arith

      by : (b : Bool) → list_any (nat_eq (f l)) (map f (range_with_len 0 m)) ≡ b
          → list_any (nat_eq (f l)) (map f (range_with_len 0 m)) ≡ false
      by false e = e
      by true e = absurd (no (Any-from_list_any (nat_eq (f l)) (map f (range_with_len 0 m)) e))

  -- the label of a number among them is the number
  pub label_is : (m l : ℕ) → l < m → m ≤ n → label_in (map f (range_with_len 0 m)) (f l) ≡ l
  label_is m l lt le =
      let long = length-map-range_with_len f 0 m in
      position_or_len_is (nat_eq (f l)) (map f (range_with_len 0 m)) l 0 (omega arith)
      (λ k before. ap (nat_eq (f l)) (get_or-map-range_with_len f 0 m k k 0 (omega arith) (omega arith))
      ∙ ne_eqb (f l) (f k) (λ same. let equal : l ≡ k = apart l k (omega arith) (omega arith) same in
      omega arith))
      (λ within. ap (nat_eq (f l)) (get_or-map-range_with_len f 0 m l l 0 lt (omega arith))
      ∙ eq-eqb (f l) (f l) refl)

  -- one more label, a known or the next
  next_label : (m l : ℕ) → l ≤ m → l < n
      → cond (list_any (nat_eq (f l)) (map f (range_with_len 0 m))) (map f (range_with_len 0 m))
      (map f (range_with_len 0 m) ++ f l ∷ []) ≡ map f (range_with_len 0 (max m (l + 1)))
  next_label m l le lt = by (cases_lt l m)
    where
      by : (l < m) ⊎ (m ≤ l) → cond (list_any (nat_eq (f l)) (map f (range_with_len 0 m)))
          (map f (range_with_len 0 m)) (map f (range_with_len 0 m) ++ f l ∷ [])
          ≡ map f (range_with_len 0 (max m (l + 1)))
      by (inl known) =
          let most : m ≡ max m (l + 1) = omega arith in
          ap (λ b. cond b (map f (range_with_len 0 m)) (map f (range_with_len 0 m) ++ f l ∷ []))
          (found_in m l known) ∙ ap (λ k. map f (range_with_len 0 k)) most
      by (inr new) =
          let most : m + 1 ≡ max m (l + 1) = omega arith in
          ap (λ b. cond b (map f (range_with_len 0 m)) (map f (range_with_len 0 m) ++ f l ∷ []))
          (not_in m l new lt)
          ∙ sym (map-range_with_len_more f 0 m l (omega arith))
          ∙ ap (λ k. map f (range_with_len 0 k)) most

  -- the different numbers of labels by first use are those of the classes, in order
  distinct_front : (labels : List ℕ)
      → ((k : ℕ) → k < length labels → get_or labels k 0 ≤ classes_of (take k labels)) → classes_of labels ≤ n
      → (i : ℕ) → i ≤ length labels
      → distinct nat_eq (map f (take i labels)) ≡ map f (range_with_len 0 (classes_of (take i labels)))
  distinct_front labels first le zero within = refl
  distinct_front labels first le (suc i) within =
      let next : suc i ≡ i + 1 = omega arith in
      let label : get_or labels i 0 < n = omega (arith, label-lt-classes_of labels i (omega arith)) in
      ap (λ k. distinct nat_eq (map f (take k labels))) next
      ∙ ap (λ ls. distinct nat_eq (map f ls)) (take_more labels i 0 (omega arith))
      ∙ ap (distinct nat_eq) (map_push f (take i labels) (get_or labels i 0))
      ∙ distinct-push nat_eq nat_eq_equiv (map f (take i labels)) (f (get_or labels i 0))
      ∙ ap (λ ds. cond (list_any (nat_eq (f (get_or labels i 0))) ds) ds (ds ++ f (get_or labels i 0) ∷ []))
      (distinct_front labels first le i (omega arith))
      ∙ next_label (classes_of (take i labels)) (get_or labels i 0) (first i (omega arith)) label
      ∙ ap (λ k. map f (range_with_len 0 k)) (sym (classes_of-push (take i labels) (get_or labels i 0)))
      ∙ ap (λ ls. map f (range_with_len 0 (classes_of ls))) (sym (take_more labels i 0 (omega arith)))
      ∙ ap (λ k. map f (range_with_len 0 (classes_of (take k labels)))) (sym next)

  pub distinct_labels : (labels : List ℕ)
      → ((k : ℕ) → k < length labels → get_or labels k 0 ≤ classes_of (take k labels)) → classes_of labels ≡ n
      → distinct nat_eq (map f labels) ≡ map f (range_with_len 0 n)
  distinct_labels labels first many =
      let whole = take_all (length labels) labels (omega arith) in
      ap (λ ls. distinct nat_eq (map f ls)) (sym whole)
      ∙ distinct_front labels first (omega arith) (length labels) (omega arith)
      ∙ ap (λ ls. map f (range_with_len 0 (classes_of ls))) whole
      ∙ ap (λ k. map f (range_with_len 0 k)) many

  -- labels by first use are found again
  pub labels_again : (labels : List ℕ)
      → ((k : ℕ) → k < length labels → get_or labels k 0 ≤ classes_of (take k labels)) → classes_of labels ≡ n
      → map (label_in (distinct nat_eq (map f labels))) (map f labels) ≡ labels
  labels_again labels first many =
      ap (λ ds. map (label_in ds) (map f labels)) (distinct_labels labels first many)
      ∙ ext_get_or 0 (map (label_in (map f (range_with_len 0 n))) (map f labels)) labels (simp length-map)
      (λ k within. here k (simp length-map at within))
    where
      here : (k : ℕ) → k < length labels
          → get_or (map (label_in (map f (range_with_len 0 n))) (map f labels)) k 0 ≡ get_or labels k 0
      here k lt =
          let in_map : k < length (map f labels) = simp length-map lt in
          get_or-map (label_in (map f (range_with_len 0 n))) (map f labels) k 0 0 in_map
          ∙ ap (label_in (map f (range_with_len 0 n))) (get_or-map f labels k 0 0 lt)
          ∙ label_is n (get_or labels k 0) (omega (arith, label-lt-classes_of labels k lt)) (omega arith)

-- none of some numbers in a row
filter_none : (p : ℕ → Bool) (a m : ℕ) → ((i : ℕ) → a ≤ i → i < a + m → p i ≡ false)
    → filter p (range_with_len a m) ≡ []
filter_none p a zero none = refl
filter_none p a (suc m) none =
    ap (λ b. cond b (a ∷ filter p (range_with_len (a + 1) m)) (filter p (range_with_len (a + 1) m)))
    (none a (omega arith) (omega arith))
    ∙ filter_none p (a + 1) m (λ i low high. none i (omega arith) (omega arith))

-- all of them
filter_every : (p : ℕ → Bool) (a m : ℕ) → ((i : ℕ) → a ≤ i → i < a + m → p i ≡ true)
    → filter p (range_with_len a m) ≡ range_with_len a m
filter_every p a zero every = refl
filter_every p a (suc m) every =
    ap (λ b. cond b (a ∷ filter p (range_with_len (a + 1) m)) (filter p (range_with_len (a + 1) m)))
    (every a (omega arith) (omega arith))
    ∙ ap (λ xs. a ∷ xs) (filter_every p (a + 1) m (λ i low high. every i (omega arith) (omega arith)))

-- numbers in a row, in two parts
range-append : (a m k : ℕ) → range_with_len a (m + k) ≡ range_with_len a m ++ range_with_len (a + m) k
range-append a zero k =
    let all : 0 + k ≡ k = omega arith in
    let here : a ≡ a + 0 = omega arith in
    ap (range_with_len a) all ∙ ap (λ b. range_with_len b k) here
range-append a (suc m) k =
    let all : suc m + k ≡ suc (m + k) = omega arith in
    let there : (a + 1) + m ≡ a + suc m = omega arith in
    ap (range_with_len a) all
    ∙ ap (λ xs. a ∷ xs) (range-append (a + 1) m k
    ∙ ap (λ b. range_with_len (a + 1) m ++ range_with_len b k) there)

-- those of a middle part
pub filter_middle : (p : ℕ → Bool) (low n limit : ℕ) → low + n ≤ limit
    → ((i : ℕ) → low ≤ i → i < low + n → p i ≡ true) → ((i : ℕ) → (i < low) ⊎ (low + n ≤ i) → p i ≡ false)
    → filter p (range_with_len 0 limit) ≡ range_with_len low n
filter_middle p low n limit le inside outside =
    let parts : limit ≡ low + (n + (limit - (low + n))) = omega arith in
    let from : 0 + low ≡ low = omega arith in
    ap (λ m. filter p (range_with_len 0 m)) parts
    ∙ ap (filter p) (range-append 0 low (n + (limit - (low + n))))
    ∙ filter-append p (range_with_len 0 low) (range_with_len (0 + low) (n + (limit - (low + n))))
    ∙ ap (λ xs. xs ++ filter p (range_with_len (0 + low) (n + (limit - (low + n)))))
    (filter_none p 0 low (λ i _ high. outside i (inl (omega arith))))
    ∙ ap (λ m. filter p (range_with_len m (n + (limit - (low + n))))) from
    ∙ ap (filter p) (range-append low n (limit - (low + n)))
    ∙ filter-append p (range_with_len low n) (range_with_len (low + n) (limit - (low + n)))
    ∙ ap (λ xs. xs ++ filter p (range_with_len (low + n) (limit - (low + n)))) (filter_every p low n inside)
    ∙ ap (λ xs. range_with_len low n ++ xs)
    (filter_none p (low + n) (limit - (low + n)) (λ i above _. outside i (inr above)))
    ∙ append-nil (range_with_len low n)
