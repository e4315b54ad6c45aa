-- The grouping and the order of a matrix that was laid out are those that it was laid out by.
use Rattle.std.proofs.Common.{◌≡◌, ℕ, ◌+◌, ◌-◌, ◌<◌, ◌≤◌, ◌⊎◌, Bool, true, false, List, length, map, filter, get_or, nat_eq, refl, sym, ap, ◌∙◌, arith, eq-eqb, Any}
use Rattle.std.specs.List.{list_any, position_or_len, range_with_len}
use Rattle.std.proofs.lemmas.Bool.{eqb-true}
use Rattle.std.proofs.lemmas.List.{length-map, get_or-map, get_or_default, ext_get_or}
use Rattle.std.proofs.lemmas.List.Folds.{list_any_at, Any-from_list_any}
use Rattle.std.proofs.lemmas.List.FromFn.{length-map-range_with_len, get_or-map-range_with_len}
use Rattle.std.proofs.lemmas.List.Sums.{passes_at_first}
use Rattle.pack_model.specs.Problem.{Parts, IsProblem, IsSorted, distinct}
use Rattle.class_frame.specs.Grouping.{IsOrder, classes_of}
use Rattle.pack_model.proofs.Laws.{element}
use Rattle.class_frame.proofs.GroupingLaws.{found_from_count}
use Rattle.class_frame.specs.Legal.{IsLegal}
use Rattle.placed_matrix.specs.Items.{frame_of_item}
use Rattle.placed_matrix.specs.Frames.{identifiers_of, label_in, frame_identifiers, grouping_of, order_of, identifiers}
use Rattle.matrix_layout.specs.LaidOut.{rows_of}
use Rattle.matrix_layout.proofs.LabelLaws.{labels_again, distinct_labels, label_is, filter_middle}
use Rattle.matrix_layout.proofs.LaidItems.{frame_of_laid, place_is}
use Rattle.matrix_layout.proofs.LaidRange.{few_frames}
use Rattle.pack_model.proofs.ListLaws.{first_place}

-- the identifier of a label's frame
abbrev frame_of : Parts → List ℕ → ℕ → ℕ
frame_of problem order label = problem.network.first_id + position_or_len (nat_eq label) order

module _ (problem : Parts) (labels order : List ℕ) (stands : IsProblem problem)
    (sorted : IsSorted problem.signals problem.items) (legal : IsLegal problem.items labels)
    (named : IsOrder labels order) where
  -- the place of a label in the order
  place_in : (label : ℕ) → label < classes_of labels → position_or_len (nat_eq label) order < length order
  place_in label lt =
      first_place (nat_eq label) order (found_from_count order label (omega (arith, named.once label lt)))

  named_there : (label : ℕ) → label < classes_of labels
      → label ≡ get_or order (position_or_len (nat_eq label) order) label
  named_there label lt =
      eqb-true label (get_or order (position_or_len (nat_eq label) order) label)
      (passes_at_first (nat_eq label) order label (place_in label lt))

  -- labels whose frames have one identifier are equal
  frames_apart : (k l : ℕ) → k < classes_of labels → l < classes_of labels
      → frame_of problem order k ≡ frame_of problem order l → k ≡ l
  frames_apart k l low high same =
      let place : position_or_len (nat_eq k) order ≡ position_or_len (nat_eq l) order = omega arith in
      named_there k low ∙ get_or_default order (position_or_len (nat_eq k) order) k l (place_in k low)
      ∙ ap (λ p. get_or order p l) place ∙ sym (named_there l high)

  -- the identifiers of the items' frames are those of their labels
  all_frames : identifiers_of problem (rows_of problem labels order) ≡ map (frame_of problem order) labels
  all_frames =
      ext_get_or 0 (identifiers_of problem (rows_of problem labels order))
      (map (frame_of problem order) labels) (simp length-map (sym legal.grouping.each))
      (λ i within. at_item i (simp length-map at within))
    where
      at_item : (i : ℕ) → i < length problem.items
          → get_or (identifiers_of problem (rows_of problem labels order)) i 0
          ≡ get_or (map (frame_of problem order) labels) i 0
      at_item i lt =
          let item = element problem.items i lt in
          get_or-map (frame_of_item problem (rows_of problem labels order)) problem.items i item.0 0 lt
          ∙ frame_of_laid problem labels order stands sorted legal named i item.0 lt
          ∙ sym (get_or-map (frame_of problem order) labels i 0 0 (omega (arith, lt, legal.grouping.each)))

  -- the frames are those of the classes
  the_frames : frame_identifiers problem (rows_of problem labels order)
      ≡ map (frame_of problem order) (range_with_len 0 (classes_of labels))
  the_frames = ap (distinct nat_eq) all_frames
      ∙ distinct_labels (frame_of problem order)
      (classes_of labels) frames_apart labels legal.grouping.by_first_use refl

  pub laid_grouping : grouping_of problem (rows_of problem labels order) ≡ labels
  laid_grouping =
      ap (λ ids. map (label_in (distinct nat_eq ids)) ids) all_frames
      ∙ labels_again (frame_of problem order)
      (classes_of labels) frames_apart labels legal.grouping.by_first_use refl

  -- the identifiers in use are in a row
  used : (id : ℕ) → problem.network.first_id ≤ id → id < problem.network.first_id + length order
      → list_any (nat_eq id) (map (frame_of problem order) (range_with_len 0 (classes_of labels))) ≡ true
  used id low high = at_place (id - problem.network.first_id) (omega arith) (omega arith)
    where
      at_place : (k : ℕ) → id ≡ problem.network.first_id + k → k < length order
          → list_any (nat_eq id) (map (frame_of problem order) (range_with_len 0 (classes_of labels))) ≡ true
      at_place k is lt =
          let label : get_or order k 0 < classes_of labels = named.only k 0 lt in
          let within : get_or order k 0
          < length (map (frame_of problem order) (range_with_len 0 (classes_of labels))) =
          omega (arith, length-map-range_with_len (frame_of problem order) 0 (classes_of labels)) in
          let same : id ≡ get_or (map (frame_of problem order) (range_with_len 0 (classes_of labels)))
          (get_or order k 0) 0 =
          is ∙ ap (λ p. problem.network.first_id + p) (sym (place_is labels order named k lt))
          ∙ sym (get_or-map-range_with_len (frame_of problem order) 0 (classes_of labels)
          (get_or order k 0) (get_or order k 0) 0 label (omega arith)) in
          list_any_at (nat_eq id) (map (frame_of problem order) (range_with_len 0 (classes_of labels)))
          (get_or order k 0) 0 within (eq-eqb id
          (get_or (map (frame_of problem order) (range_with_len 0 (classes_of labels)))
          (get_or order k 0) 0) same)

  unused : (id : ℕ) → (id < problem.network.first_id) ⊎ (problem.network.first_id + length order ≤ id)
      → list_any (nat_eq id) (map (frame_of problem order) (range_with_len 0 (classes_of labels))) ≡ false
  unused id outside =
      by (list_any (nat_eq id) (map (frame_of problem order) (range_with_len 0 (classes_of labels)))) refl
      outside
    where
      no : Any (λ x. nat_eq id x ≡ true) (map (frame_of problem order) (range_with_len 0 (classes_of labels)))
          → (id < problem.network.first_id) ⊎ (problem.network.first_id + length order ≤ id) → ⊥
      no (l, x, within, at, e) outside =
          let label : l < classes_of labels =
          omega (arith, length-map-range_with_len (frame_of problem order) 0 (classes_of labels)) in
          let same : id ≡ problem.network.first_id + position_or_len (nat_eq l) order = eqb-true id x e
          ∙ sym at ∙ get_or-map-range_with_len (frame_of problem order) 0 (classes_of labels) l l x label
          (omega arith) in
          omega (arith, place_in l label)

      by : (b : Bool) → list_any (nat_eq id)
          (map (frame_of problem order) (range_with_len 0 (classes_of labels))) ≡ b
          → (id < problem.network.first_id) ⊎ (problem.network.first_id + length order ≤ id)
          → list_any (nat_eq id) (map (frame_of problem order) (range_with_len 0 (classes_of labels))) ≡ false
      by false e outside = e
      by true e outside =
          absurd (no (Any-from_list_any (nat_eq id)
          (map (frame_of problem order) (range_with_len 0 (classes_of labels))) e) outside)

  identifiers_is : identifiers ≡ range_with_len 0 2048
  unfolding identifiers
  identifiers_is = refl

  pub laid_order : order_of problem (rows_of problem labels order) ≡ order
  laid_order =
      ap (λ firsts. map (label_in firsts) (filter (λ id. list_any (nat_eq id) firsts) identifiers)) the_frames
      ∙ ap (λ ids. map (label_in (map (frame_of problem order) (range_with_len 0 (classes_of labels)))) ids)
      (ap (filter (λ id. list_any (nat_eq id)
      (map (frame_of problem order) (range_with_len 0 (classes_of labels))))) identifiers_is
      ∙ filter_middle (λ id. list_any (nat_eq id)
      (map (frame_of problem order) (range_with_len 0 (classes_of labels)))) problem.network.first_id
      (length order) 2048
      (omega (arith, few_frames problem labels order stands sorted legal named, stands.network.first_id_high))
      used unused)
      ∙ ext_get_or 0 (map (label_in (map (frame_of problem order) (range_with_len 0 (classes_of labels))))
      (range_with_len problem.network.first_id (length order))) order
      (length-map-range_with_len
      (label_in (map (frame_of problem order) (range_with_len 0 (classes_of labels))))
      problem.network.first_id (length order))
      (λ k within. here k (omega (
        arith,
        within,
        length-map-range_with_len
            (label_in (map (frame_of problem order) (range_with_len 0 (classes_of labels))))
            problem.network.first_id (length order),
      )))
    where
      here : (k : ℕ) → k < length order
          → get_or (map (label_in (map (frame_of problem order) (range_with_len 0 (classes_of labels))))
          (range_with_len problem.network.first_id (length order))) k 0 ≡ get_or order k 0
      here k lt =
          get_or-map-range_with_len
          (label_in (map (frame_of problem order) (range_with_len 0 (classes_of labels))))
          problem.network.first_id (length order) k (problem.network.first_id + k) 0 lt refl
          ∙ ap (λ p. label_in (map (frame_of problem order) (range_with_len 0 (classes_of labels)))
          (problem.network.first_id + p)) (sym (place_is labels order named k lt))
          ∙ label_is (frame_of problem order) (classes_of labels) frames_apart (classes_of labels)
          (get_or order k 0) (named.only k 0 lt) (omega arith)
