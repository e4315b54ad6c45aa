-- Labels by first use of identifiers, and their order by ascending identifier.
use Rattle.std.proofs.Common.{◌≡◌, ℕ, ◌+◌, ◌<◌, ◌≤◌, ◌⊎◌, zero, suc, Bool, true, false, cond, List, [], ◌∷◌, ◌++◌, length, get_or, take, drop, map, filter, max, count_by, nat_eq, All, ap, sym, ◌∙◌, refl, inl, inr, arith, add-one, eq-eqb, true≢false, take-append-drop, append_assoc, length-append}
use Rattle.std.specs.List.{list_any, range_with_len}
use Rattle.std.proofs.lemmas.Cmp.{nat_eq_equiv}
use Rattle.std.proofs.lemmas.Bool.{cases_eq, ne_eqb}
use Rattle.std.proofs.lemmas.List.{take_more, take_all, length-map, get_or-map}
use Rattle.std.proofs.lemmas.List.Elements.{All-map, filter_passes}
use Rattle.std.proofs.lemmas.List.Folds.{list_any_at}
use Rattle.std.proofs.lemmas.List.Sums.{passes_at_first, position_or_len_is}
use Rattle.pack_model.specs.Problem.{Parts, distinct}
use Rattle.class_frame.specs.Grouping.{classes_of, IsGrouping, IsOrder}
use Rattle.pack_model.proofs.Distinct.{distinct-push, distinct-front}
use Rattle.class_frame.proofs.GroupingLaws.{classes_of-push, length-order}
use Rattle.matrix_rows.specs.declared.matrix.MatrixRow.{MatrixRow}
use Rattle.matrix_rows.specs.Row.{RowInRange}
use Rattle.placed_matrix.specs.Frames.{label_in, identifiers_of, frame_identifiers, grouping_of, order_of, identifiers}
use Rattle.placed_matrix.proofs.Counts.{counted}
use Rattle.placed_matrix.proofs.InOrder.{AllDifferent, AllDifferent-distinct, count_here}
use Rattle.placed_matrix.proofs.PlacedLaws.{identifiers_low}
use Rattle.pack_model.proofs.ListLaws.{first_place}
use Rattle.placed_matrix.proofs.Numbering.{label_front, label_next}

-- of different numbers an earlier one is no later one
differs : (xs : List ℕ) → AllDifferent xs → (k l : ℕ) → k < l → l < length xs
    → nat_eq (get_or xs l 0) (get_or xs k 0) ≡ false
differs [] apart k l before lt = absurd (omega arith)
differs (x ∷ xs) apart k zero before lt = absurd (omega arith)
differs (x ∷ xs) apart zero (suc l) before lt =
    ne_eqb (get_or xs l 0) x (λ same. true≢false
    (sym (list_any_at (nat_eq x) xs l 0 (omega arith) (eq-eqb x (get_or xs l 0) (sym same))) ∙ apart.0))
differs (x ∷ xs) apart (suc k) (suc l) before lt = differs xs apart.1 k l (omega arith) (omega arith)

-- an identifier has a label exactly where it is the one of that number
pub label_test : (ids : List ℕ) → AllDifferent ids → (label id : ℕ) → label < length ids
    → nat_eq (label_in ids id) label ≡ nat_eq id (get_or ids label 0)
label_test ids apart label id lt = by (cases_eq (label_in ids id) label)
  where
    back : id ≡ get_or ids label 0 → label_in ids id ≡ label
    back same =
        position_or_len_is (nat_eq id) ids label 0 (omega arith)
        (λ k before. ap (λ n. nat_eq n (get_or ids k 0)) same ∙ differs ids apart k label before lt)
        (λ within. eq-eqb id (get_or ids label 0) same)

    by : (label_in ids id ≡ label) ⊎ (label_in ids id ≡ label → ⊥)
        → nat_eq (label_in ids id) label ≡ nat_eq id (get_or ids label 0)
    by (inl same) =
        let there : nat_eq id (get_or ids (label_in ids id) 0) ≡ true =
        passes_at_first (nat_eq id) ids 0 (let low : label_in ids id < length ids = omega arith in low) in
        eq-eqb (label_in ids id) label same ∙ sym (ap (λ n. nat_eq id (get_or ids n 0)) (sym same) ∙ there)
    by (inr differ) = ne_eqb (label_in ids id) label differ
        ∙ sym (ne_eqb id (get_or ids label 0) (λ same. differ (back same)))

-- the labels of the different ones of some identifiers
abbrev pub labels_in : List ℕ → List ℕ
labels_in ids = map (label_in (distinct nat_eq ids)) ids

-- what the label of one more identifier is: at most the number of those before it, which it then counts among
record NextLabel (ids : List ℕ) (n : ℕ) : Type 0 where
  most : get_or (labels_in ids) n 0 ≤ length (distinct nat_eq (take n ids))
  count : max (length (distinct nat_eq (take n ids))) (get_or (labels_in ids) n 0 + 1)
      ≡ length (distinct nat_eq (take (n + 1) ids))

-- each identifier has a label that is known or the next
next_label : (ids : List ℕ) (n : ℕ) → n < length ids → NextLabel ids n
next_label ids n lt = by (list_any (nat_eq (get_or ids n 0)) (distinct nat_eq (take n ids))) refl
  where
    label_is : get_or (labels_in ids) n 0 ≡ label_in (distinct nat_eq ids) (get_or ids n 0)
    label_is = get_or-map (label_in (distinct nat_eq ids)) ids n 0 0 lt

    more : distinct nat_eq (take (n + 1) ids)
        ≡ cond (list_any (nat_eq (get_or ids n 0)) (distinct nat_eq (take n ids)))
        (distinct nat_eq (take n ids)) (distinct nat_eq (take n ids) ++ get_or ids n 0 ∷ [])
    more = ap (distinct nat_eq) (take_more ids n 0 lt)
        ∙ distinct-push nat_eq nat_eq_equiv (take n ids) (get_or ids n 0)

    by : (b : Bool) → list_any (nat_eq (get_or ids n 0)) (distinct nat_eq (take n ids)) ≡ b → NextLabel ids n
    by true e =
        let (back, is) = distinct-front nat_eq nat_eq_equiv (drop n ids) (take n ids) in
        let label : get_or (labels_in ids) n 0 ≡ label_in (distinct nat_eq (take n ids)) (get_or ids n 0) =
        label_is ∙ ap (λ l. label_in l (get_or ids n 0))
        (ap (distinct nat_eq) (sym (take-append-drop n ids)) ∙ is)
        ∙ label_front (distinct nat_eq (take n ids)) back (get_or ids n 0) e in
        let low : label_in (distinct nat_eq (take n ids)) (get_or ids n 0)
        < length (distinct nat_eq (take n ids)) =
        first_place (nat_eq (get_or ids n 0)) (distinct nat_eq (take n ids)) e in
        let same : length (distinct nat_eq (take (n + 1) ids)) ≡ length (distinct nat_eq (take n ids)) =
        ap length (more ∙ ap (λ b. cond b (distinct nat_eq (take n ids))
        (distinct nat_eq (take n ids) ++ get_or ids n 0 ∷ [])) e) in
        record { most = omega arith; count = omega arith }
    by false e =
        let grown : distinct nat_eq (take (n + 1) ids) ≡ distinct nat_eq (take n ids) ++ get_or ids n 0 ∷ [] =
        more ∙ ap (λ b. cond b (distinct nat_eq (take n ids))
        (distinct nat_eq (take n ids) ++ get_or ids n 0 ∷ [])) e in
        let (back, is) = distinct-front nat_eq nat_eq_equiv (drop (n + 1) ids) (take (n + 1) ids) in
        let all : distinct nat_eq ids ≡ distinct nat_eq (take n ids) ++ get_or ids n 0 ∷ back =
        ap (distinct nat_eq) (sym (take-append-drop (n + 1) ids)) ∙ is ∙ ap (λ l. l ++ back) grown
        ∙ append_assoc (distinct nat_eq (take n ids)) (get_or ids n 0 ∷ []) back in
        let label : get_or (labels_in ids) n 0 ≡ length (distinct nat_eq (take n ids)) = label_is
        ∙ ap (λ l. label_in l (get_or ids n 0)) all
        ∙ label_next (distinct nat_eq (take n ids)) back (get_or ids n 0) e in
        let long : length (distinct nat_eq (take (n + 1) ids)) ≡ length (distinct nat_eq (take n ids)) + 1 =
        ap length grown ∙ length-append (distinct nat_eq (take n ids)) (get_or ids n 0 ∷ []) in
        record { most = omega arith; count = omega arith }

-- the first labels have as many classes as there are different ones among the first identifiers
classes_in_front : (ids : List ℕ) (n : ℕ) → n ≤ length ids
    → classes_of (take n (labels_in ids)) ≡ length (distinct nat_eq (take n ids))
classes_in_front ids zero within = refl
classes_in_front ids (suc n) within =
    let long : length (labels_in ids) ≡ length ids = simp length-map in
    ap (λ m. classes_of (take m (labels_in ids))) (sym (add-one n))
    ∙ ap classes_of (take_more (labels_in ids) n 0 (omega arith))
    ∙ classes_of-push (take n (labels_in ids)) (get_or (labels_in ids) n 0)
    ∙ ap (λ m. max m (get_or (labels_in ids) n 0 + 1)) (classes_in_front ids n (omega arith))
    ∙ (next_label ids n (omega arith)).count
    ∙ ap (λ m. length (distinct nat_eq (take m ids))) (add-one n)

module _ (problem : Parts) (rows : List MatrixRow) where
  -- the labels of the frames group the items
  pub is_grouping : IsGrouping problem.items (grouping_of problem rows)
  is_grouping = record {
    each = simp length-map;
    by_first_use = λ k lt.
        let long : length (labels_in (identifiers_of problem rows)) ≡ length (identifiers_of problem rows) =
        simp length-map in
        let within : k < length (identifiers_of problem rows) = omega arith in
        omega (
          arith,
          (next_label (identifiers_of problem rows) k within).most,
          classes_in_front (identifiers_of problem rows) k (omega arith),
        );
  }

  -- there are as many classes as frames
  pub classes_of_frames : classes_of (grouping_of problem rows) ≡ length (frame_identifiers problem rows)
  classes_of_frames =
      let ids : List ℕ = identifiers_of problem rows in
      let long : length (labels_in (identifiers_of problem rows)) ≡ length (identifiers_of problem rows) =
      simp length-map in
      ap classes_of (sym (take_all (length (identifiers_of problem rows))
      (labels_in (identifiers_of problem rows)) (omega arith)))
      ∙ classes_in_front (identifiers_of problem rows) (length (identifiers_of problem rows)) (omega arith)
      ∙ ap (λ l. length (distinct nat_eq l))
      (take_all (length (identifiers_of problem rows)) (identifiers_of problem rows) (omega arith))

-- a number is counted among the images of what is kept where a test on what is kept says so
count_images : (keep test : ℕ → Bool) (f : ℕ → ℕ) (n : ℕ)
    → ((x : ℕ) → keep x ≡ true → nat_eq (f x) n ≡ test x) → ((x : ℕ) → keep x ≡ false → test x ≡ false)
    → (xs : List ℕ)
    → count_by (λ y. nat_eq y n) (map f (filter keep xs)) ≡ count_by test xs
count_images keep test f n same none [] = refl
count_images keep test f n same none (x ∷ xs) = by (keep x) refl (count_images keep test f n same none xs)
  where
    by : (b : Bool) → keep x ≡ b → count_by (λ y. nat_eq y n) (map f (filter keep xs)) ≡ count_by test xs
        → count_by (λ y. nat_eq y n) (map f (filter keep (x ∷ xs))) ≡ count_by test (x ∷ xs)
    by true e ih =
        ap (λ b. count_by (λ y. nat_eq y n) (map f (cond b (x ∷ filter keep xs) (filter keep xs)))) e
        ∙ counted (λ y. nat_eq y n) (f x) (map f (filter keep xs))
        ∙ ap (λ b. cond b 1 0 + count_by (λ y. nat_eq y n) (map f (filter keep xs))) (same x e)
        ∙ ap (λ m. cond (test x) 1 0 + m) ih
        ∙ sym (counted test x xs)
    by false e ih =
        ap (λ b. count_by (λ y. nat_eq y n) (map f (cond b (x ∷ filter keep xs) (filter keep xs)))) e
        ∙ ih
        ∙ sym (counted test x xs ∙ ap (λ b. cond b 1 0 + count_by test xs) (none x e) ∙ omega arith)

module _ (problem : Parts) (rows : List MatrixRow) (in_range : All RowInRange rows) where
  abbrev ids : List ℕ
  ids = frame_identifiers problem rows

  abbrev is_used : ℕ → Bool
  is_used id = list_any (nat_eq id) (frame_identifiers problem rows)

  -- the order names a class once
  named_once : (label : ℕ) → label < length ids
      → count_by (λ x. nat_eq x label) (map (label_in ids) (filter is_used (range_with_len 0 2048))) ≡ 1
  named_once label lt =
      count_images is_used (λ id. nat_eq id (get_or ids label 0)) (label_in ids) label
      (λ id there. label_test ids (AllDifferent-distinct (identifiers_of problem rows)) label id lt)
      (λ id none. ne_eqb id (get_or ids label 0)
      (λ same. true≢false (sym (list_any_at (nat_eq id) ids label 0 lt
      (eq-eqb id (get_or ids label 0) same)) ∙ none)))
      (range_with_len 0 2048)
      ∙ count_here 2048 (get_or ids label 0) (identifiers_low problem rows in_range label 0 lt)

  -- and nothing else
  named_only : All (λ label. label < classes_of (grouping_of problem rows))
      (map (label_in ids) (filter is_used (range_with_len 0 2048)))
  named_only =
      All-map (λ label. label < classes_of (grouping_of problem rows)) (label_in ids)
      (filter is_used (range_with_len 0 2048))
      (λ k d lt. let low : label_in ids (get_or (filter is_used (range_with_len 0 2048)) k d) < length ids =
      first_place (nat_eq (get_or (filter is_used (range_with_len 0 2048)) k d)) ids
      (filter_passes is_used (range_with_len 0 2048) k d lt) in
      omega (arith, low, classes_of_frames problem rows))

  pub is_order : IsOrder (grouping_of problem rows) (order_of problem rows)
  unfolding identifiers
  is_order =
      record {
        once = λ label lt. named_once label (omega (arith, lt, classes_of_frames problem rows));
        only = named_only;
      }

-- there are as many labels in the order as frames
pub order_length : (problem : Parts) (rows : List MatrixRow) → All RowInRange rows
    → length (order_of problem rows) ≡ length (frame_identifiers problem rows)
order_length problem rows in_range =
    length-order (grouping_of problem rows) (order_of problem rows) (is_order problem rows in_range)
    ∙ classes_of_frames problem rows
