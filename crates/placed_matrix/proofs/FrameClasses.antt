-- The class of a label is the items of one frame, and its sums are small.
use Rattle.std.proofs.Common.{◌≡◌, ℕ, ◌<◌, ◌≤◌, cond, List, [], ◌∷◌, length, get_or, map, filter, nat_eq, refl, sym, ap, subst, ◌∙◌, arith, All, eqb-true, true}
use Rattle.std.proofs.lemmas.List.{get_or_default, get_or-map, length-map}
use Rattle.std.proofs.lemmas.List.Elements.{filter_agree}
use Rattle.std.proofs.lemmas.List.Sums.{passes_at_first}
use Rattle.pack_model.specs.declared.item.Item.{Item}
use Rattle.pack_model.specs.Problem.{Parts, IsProblem}
use Rattle.pack_model.proofs.Laws.{tests}
use Rattle.pack_model.proofs.ItemFacts.{small_items}
use Rattle.class_frame.specs.Grouping.{class_of}
use Rattle.class_frame.specs.Sums.{IsSmall, sums_of}
use Rattle.class_frame.proofs.GroupingLaws.{class_of-cons, label-lt-classes_of}
use Rattle.class_frame.proofs.Used.{class_is_small}
use Rattle.matrix_rows.specs.declared.matrix.MatrixRow.{MatrixRow}
use Rattle.placed_matrix.specs.Items.{frame_of_item, items_in_frame}
use Rattle.placed_matrix.specs.Frames.{label_in, identifiers_of, frame_identifiers, grouping_of}
use Rattle.placed_matrix.proofs.FrameLabels.{classes_of_frames, label_test}
use Rattle.placed_matrix.proofs.InOrder.{AllDifferent-distinct}
use Rattle.placed_matrix.proofs.PlacedLaws.{frames-le-items}

-- the class of a label among what is labelled by a test of itself
pub class_of-labelled : {X : Type 0} (f : ℕ → ℕ) (h : X → ℕ) (label : ℕ) (xs : List X)
    → class_of label (map f (map h xs)) xs ≡ filter (λ x. nat_eq (f (h x)) label) xs
class_of-labelled f h label [] = refl
class_of-labelled f h label (x ∷ xs) =
    class_of-cons label (f (h x)) (map f (map h xs)) x xs
    ∙ ap (λ ys. cond (nat_eq (f (h x)) label) (x ∷ ys) ys) (class_of-labelled f h label xs)

module _ (problem : Parts) (rows : List MatrixRow) where
  -- a label's class is the items of its frame
  pub class_of_label : (label : ℕ) → label < length (frame_identifiers problem rows)
      → class_of label (grouping_of problem rows) problem.items
      ≡ items_in_frame problem rows (get_or (frame_identifiers problem rows) label 0)
  class_of_label label lt =
      class_of-labelled (label_in (frame_identifiers problem rows))
      (frame_of_item problem rows) label problem.items
      ∙ filter_agree (λ item. nat_eq
      (label_in (frame_identifiers problem rows) (frame_of_item problem rows item)) label)
      (λ item. nat_eq (frame_of_item problem rows item) (get_or (frame_identifiers problem rows) label 0))
      (λ item. label_test (frame_identifiers problem rows)
      (AllDifferent-distinct (identifiers_of problem rows)) label (frame_of_item problem rows item) lt)
      problem.items

  -- each item's label is that of a frame
  pub label_low : (k : ℕ) → k < length problem.items
      → get_or (grouping_of problem rows) k 0 < length (frame_identifiers problem rows)
  label_low k lt =
      let ids : length (identifiers_of problem rows) ≡ length problem.items = simp length-map in
      let long : length (grouping_of problem rows) ≡ length (identifiers_of problem rows) = simp length-map in
      let within : k < length (grouping_of problem rows) = omega (arith, ids, long, lt) in
      omega (arith, label-lt-classes_of (grouping_of problem rows) k within, classes_of_frames problem rows)

  pub label_of_item : (k : ℕ) (d : Item) → k < length problem.items
      → get_or (grouping_of problem rows) k 0
      ≡ label_in (frame_identifiers problem rows) (frame_of_item problem rows (get_or problem.items k d))
  label_of_item k d lt =
      let within : k < length (identifiers_of problem rows) = simp length-map lt in
      get_or-map (label_in (frame_identifiers problem rows)) (identifiers_of problem rows) k 0 0 within
      ∙ ap (label_in (frame_identifiers problem rows))
      (get_or-map (frame_of_item problem rows) problem.items k d 0 lt)

  -- and its class is the items of its frame
  pub class_at : (k : ℕ) → k < length problem.items
      → class_of (get_or (grouping_of problem rows) k 0) (grouping_of problem rows) problem.items
      ≡ items_in_frame problem rows (get_or (identifiers_of problem rows) k 0)
  class_at k lt =
      let within : k < length (identifiers_of problem rows) = simp length-map lt in
      let label : get_or (grouping_of problem rows) k 0
      ≡ label_in (frame_identifiers problem rows) (get_or (identifiers_of problem rows) k 0) =
      get_or-map (label_in (frame_identifiers problem rows)) (identifiers_of problem rows) k 0 0 within in
      let there : nat_eq (get_or (identifiers_of problem rows) k 0)
      (get_or (frame_identifiers problem rows)
      (label_in (frame_identifiers problem rows) (get_or (identifiers_of problem rows) k 0)) 0) ≡ true =
      passes_at_first (nat_eq (get_or (identifiers_of problem rows) k 0)) (frame_identifiers problem rows) 0
      (omega (arith, label, label_low k lt)) in
      class_of_label (get_or (grouping_of problem rows) k 0) (label_low k lt)
      ∙ ap (λ n. items_in_frame problem rows (get_or (frame_identifiers problem rows) n 0)) label
      ∙ ap (items_in_frame problem rows) (sym (eqb-true _ _ there))

  -- there are at most 128 labels
  pub labels_low : IsProblem problem → All (λ label. label < 128) (grouping_of problem rows)
  labels_low stands k d lt =
      let ids : length (identifiers_of problem rows) ≡ length problem.items = simp length-map in
      let long : length (grouping_of problem rows) ≡ length (identifiers_of problem rows) = simp length-map in
      omega (
        arith,
        get_or_default (grouping_of problem rows) k d 0 lt,
        label_low k (omega (arith, ids, long, lt)),
        frames-le-items problem rows,
        (tests problem stands).few_items,
      )

-- the same of labels and items that are those of the grouping
module _ (problem : Parts) (stands : IsProblem problem) (rows : List MatrixRow) (labels : List ℕ)
    (grouped : labels ≡ grouping_of problem rows) (items : List Item) (same : items ≡ problem.items) (k : ℕ)
    (lt : k < length items) where
  inside : k < length problem.items
  inside = omega (arith, lt, ap length same)

  pub label_below : get_or labels k 0 < 128
  label_below =
      omega (
        arith,
        ap (λ ls. get_or ls k 0) grouped,
        label_low problem rows k inside,
        frames-le-items problem rows,
        (tests problem stands).few_items,
      )

  pub class_here : (id : ℕ) → get_or (identifiers_of problem rows) k 0 ≡ id
      → class_of (get_or labels k 0) labels items ≡ items_in_frame problem rows id
  class_here id is = ap (λ ls. class_of (get_or ls k 0) ls items) grouped
      ∙ ap (class_of (get_or (grouping_of problem rows) k 0) (grouping_of problem rows)) same
      ∙ class_at problem rows k inside ∙ ap (items_in_frame problem rows) is

  pub here_small : IsSmall (sums_of problem (class_of (get_or labels k 0) labels items))
  here_small =
      class_is_small problem items labels (get_or labels k 0)
      (omega (arith, ap length same, (tests problem stands).few_items))
      (subst (All (λ (item : Item). item.bits ≤ 512)) (sym same) (small_items problem stands))
