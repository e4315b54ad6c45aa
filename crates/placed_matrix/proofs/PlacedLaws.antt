-- The labels of a matrix whose rows have passed.
use Rattle.std.proofs.Common.{◌≡◌, ℕ, ◌<◌, ◌≤◌, true, List, length, get_or, nat_eq, sym, ap, ◌∙◌, arith, All, AllPairs, slice_index, eq-eqb, if◌then◌else◌}
use Rattle.std.specs.List.{list_any, range_with_len}
use Rattle.std.proofs.lemmas.Bool.{eqb-true}
use Rattle.std.proofs.lemmas.Cmp.{nat_eq_equiv}
use Rattle.std.proofs.lemmas.List.{get_or_default, get_or-map, length-map}
use Rattle.std.proofs.lemmas.List.Folds.{list_any_at}
use Rattle.std.proofs.lemmas.List.FromFn.{fill_by_all}
use Rattle.std.proofs.lemmas.List.Elements.{All-map}
use Rattle.pack_model.specs.Problem.{Parts, IsProblem, IsSorted}
use Rattle.pack_model.proofs.Laws.{tests}
use Rattle.pack_model.proofs.Distinct.{list_any-distinct, length-distinct}
use Rattle.matrix_rows.specs.declared.matrix.MatrixRow.{MatrixRow}
use Rattle.matrix_rows.specs.Row.{RowInRange}
use Rattle.placed_matrix.specs.Items.{is_named, name_of_item, frame_of_item, identifier_of}
use Rattle.placed_matrix.specs.Placed.{OneRow}
use Rattle.placed_matrix.specs.Frames.{frame_identifiers, identifiers_of, order_of, identifiers, label_in}
use Rattle.placed_matrix.specs.Tables.{HasRows, HasLabels, LabelsApart, SamePart, in_use, label_or_none, no_label}
use Rattle.std.proofs.lemmas.List.Sums.{passes_at_first}
use Rattle.pack_model.proofs.ListLaws.{first_place}
use Rattle.placed_matrix.proofs.RowItems.{item_of_row}
use Rattle.placed_matrix.proofs.InUse.{walked}
use Rattle.placed_matrix.proofs.InOrder.{All-distinct, found_low}

-- a label's identifier
label_at : (firsts : List ℕ) (id : ℕ) → list_any (nat_eq id) firsts ≡ true
    → get_or firsts (label_in firsts id) 0 ≡ id
label_at firsts id there =
    sym (eqb-true id _ (passes_at_first (nat_eq id) firsts 0 (first_place (nat_eq id) firsts there)))

-- there are no more frames than items
pub frames-le-items : (problem : Parts) (rows : List MatrixRow)
    → length (frame_identifiers problem rows) ≤ length problem.items
frames-le-items problem rows =
    let ids : length (identifiers_of problem rows) ≡ length problem.items = simp length-map in
    omega (arith, ids, length-distinct nat_eq nat_eq_equiv (identifiers_of problem rows))

-- a row's frame is one of the items' frames
module _ (problem : Parts) (stands : IsProblem problem) (sorted : IsSorted problem.signals problem.items)
    (rows : List MatrixRow) (one : OneRow problem.signals rows) (row_of : List ℕ)
    (has : HasRows problem.signals rows row_of)
    (parts : AllPairs SamePart rows) where
  pub row_in_frames : (k : ℕ) (d : MatrixRow) → k < length rows
      → list_any (nat_eq (get_or rows k d).id) (frame_identifiers problem rows) ≡ true
  row_in_frames k d lt =
      let (item, is) =
      item_of_row problem stands sorted rows one row_of has parts k (get_or rows k d) lt
      (get_or_default rows k d (get_or rows k d) lt) in
      let in_ids : is.number < length (identifiers_of problem rows) = simp length-map is.within in
      let id : get_or (identifiers_of problem rows) is.number 0 ≡ (get_or rows k d).id =
      get_or-map (frame_of_item problem rows) problem.items is.number item 0 is.within
      ∙ ap (frame_of_item problem rows) (sym is.at) ∙ is.id in
      list_any-distinct nat_eq nat_eq_equiv (get_or rows k d).id (identifiers_of problem rows)
      ∙ list_any_at (nat_eq (get_or rows k d).id) (identifiers_of problem rows) is.number 0 in_ids
      (eq-eqb _ _ (sym id))

  few_frames : length (frame_identifiers problem rows) ≤ 128
  few_frames = omega (arith, frames-le-items problem rows, (tests problem stands).few_items)

  pub labels_apart : (label_of : List ℕ) → All RowInRange rows
      → HasLabels (frame_identifiers problem rows) label_of → LabelsApart label_of rows
  labels_apart label_of in_range labels = record {
    low =
        λ k d lt. omega (
          arith,
          label k d lt,
          first_place (nat_eq (get_or rows k d).id) (frame_identifiers problem rows) (row_in_frames k d lt),
          few_frames,
        );
    apart = λ i j d lt lt2 same.
        sym (label_at (frame_identifiers problem rows) (get_or rows i d).id (row_in_frames i d lt))
        ∙ ap (λ l. get_or (frame_identifiers problem rows) l 0) (sym (label i d lt) ∙ same ∙ label j d lt2)
        ∙ label_at (frame_identifiers problem rows) (get_or rows j d).id (row_in_frames j d lt2);
  }
    where
      label : (k : ℕ) (d : MatrixRow) → k < length rows
          → slice_index label_of (get_or rows k d).id
          ≡ label_in (frame_identifiers problem rows) (get_or rows k d).id
      label k d lt =
          labels (get_or rows k d).id
          (let low : (get_or rows k d).id ≤ 2047 = (in_range k d lt).id in omega (arith, low))
          ∙ ap (λ b. if b then label_in (frame_identifiers problem rows) (get_or rows k d).id else no_label)
          (row_in_frames k d lt)

  -- the labels in use are those of the frames by ascending identifier
  pub in_use_order : (label_of : List ℕ) → length label_of ≡ 2048
      → HasLabels (frame_identifiers problem rows) label_of → in_use label_of ≡ order_of problem rows
  unfolding identifiers
  in_use_order label_of long labels =
      ap in_use (fill_by_all (label_or_none (frame_identifiers problem rows)) label_of 2048 0 long labels)
      ∙ walked (frame_identifiers problem rows) (range_with_len 0 2048) (omega (arith, few_frames))

-- each identifier of a frame is one of a base frame
pub identifiers_low : (problem : Parts) (rows : List MatrixRow) → All RowInRange rows
    → All (λ x. x < 2048) (frame_identifiers problem rows)
identifiers_low problem rows in_range =
    All-distinct (λ x. x < 2048) (identifiers_of problem rows)
    (All-map (λ x. x < 2048) (λ item. identifier_of rows (name_of_item problem.signals item)) problem.items
    (λ k d lt. let low : identifier_of rows (name_of_item problem.signals (get_or problem.items k d)) ≤ 2047 =
    found_low (is_named (name_of_item problem.signals (get_or problem.items k d))) rows
    (λ i e before. (in_range i e before).id) in omega (arith, low)))
