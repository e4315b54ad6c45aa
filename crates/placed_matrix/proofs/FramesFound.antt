-- The row of each item's first signal, and the label of its frame.
use Rattle.std.proofs.Common.{◌≡◌, ℕ, ◌+◌, ◌<◌, ◌≤◌, List, [], ◌∷◌, ◌++◌, length, get_or, map, set, take, All, sym, ap, subst, ◌∙◌, arith, Some, find, slice_get, slice_index}
use Rattle.std.specs.Option.{option_map_or}
use Rattle.std.proofs.lemmas.List.{take_more, take_more_set, length-map, get_or-map}
use Rattle.std.proofs.lemmas.Option.{slice_get-get_or}
use Rattle.pack_model.specs.declared.signal.Signal.{Signal}
use Rattle.pack_model.specs.declared.item.Item.{Item}
use Rattle.pack_model.specs.Problem.{Parts, IsProblem, IsSorted}
use Rattle.pack_model.proofs.ItemFacts.{IsItemOf, items_of_signals, small_items}
use Rattle.pack_model.proofs.Laws.{element}
use Rattle.matrix_rows.specs.declared.matrix.MatrixRow.{MatrixRow}
use Rattle.placed_matrix.specs.Items.{is_named, name_of_item, frame_of_item, at_of_item}
use Rattle.placed_matrix.specs.Frames.{identifiers_of, frame_identifiers, grouping_of, label_in}
use Rattle.placed_matrix.specs.Tables.{FirstFound, HasRows}
use Rattle.placed_matrix.proofs.RowsFound.{name_at, name_is}
use Rattle.placed_matrix.proofs.Numbering.{find_first}

-- the row of an item's first signal
pub record ItemRow (problem : Parts) (rows : List MatrixRow) (item : Item) (row : MatrixRow) : Type 0 where
  pub id : frame_of_item problem rows item ≡ row.id
  pub at : at_of_item problem rows item ≡ row.at

module _ (problem : Parts) (sorted : IsSorted problem.signals problem.items) (rows : List MatrixRow)
    (row_of : List ℕ) (has : HasRows problem.signals rows row_of)
    (items : List Item) (same : items ≡ problem.items) (number : ℕ) (item : Item) (lt : number < length items)
    (at : item ≡ get_or items number item) where
  item_of : IsItemOf problem.signals item
  item_of =
      subst (IsItemOf problem.signals) (sym at)
      (subst (All (IsItemOf problem.signals)) (sym same)
      (items_of_signals problem.signals problem.items sorted) number item lt)

  first_is : slice_index item.members 0 ≡ item_of.place
  first_is = ap (λ ms. slice_index ms 0) item_of.members

  -- the first signal has a row
  pub first_found : length problem.signals ≤ 2048 → FirstFound rows row_of item
  first_found few = record {
    some = omega (arith, ap length item_of.members);
    low = omega (arith, first_is, item_of.within, few);
    within =
        subst (λ n. slice_index row_of n < length rows) (sym first_is) (has item_of.place item_of.within).0;
  }

  -- which is the one that its name finds
  row_found : (row : MatrixRow) → row ≡ get_or rows (slice_index row_of (slice_index item.members 0)) row
      → find (is_named (name_of_item problem.signals item)) rows ≡ Some row
  row_found row is =
      let signal = element problem.signals item_of.place item_of.within in
      let name : name_of_item problem.signals item ≡ name_at problem.signals item_of.place =
      ap (λ n. option_map_or (λ (s : Signal). s.name) (slice_get problem.signals n) []) first_is
      ∙ ap (λ o. option_map_or (λ (s : Signal). s.name) o [])
      (slice_get-get_or problem.signals item_of.place signal.0 item_of.within)
      ∙ sym (name_is problem.signals item_of.place signal.0 item_of.within) in
      let placed = has item_of.place item_of.within in
      ap (λ n. find (is_named n) rows) name
      ∙ find_first (is_named (name_at problem.signals item_of.place)) rows
      ∙ ap (slice_get rows) placed.1
      ∙ slice_get-get_or rows (slice_index row_of item_of.place) row placed.0
      ∙ ap Some (ap (λ n. get_or rows (slice_index row_of n) row) (sym first_is) ∙ sym is)

  -- its frame and its part's place are the item's
  pub item_row : (row : MatrixRow) → row ≡ get_or rows (slice_index row_of (slice_index item.members 0)) row
      → ItemRow problem rows item row
  item_row row is = record {
    id = ap (λ o. option_map_or (λ (r : MatrixRow). r.id) o 0) (row_found row is);
    at = ap (λ o. option_map_or (λ (r : MatrixRow). r.at) o 0) (row_found row is);
  }

  pub identifier_is : (row : MatrixRow)
      → row ≡ get_or rows (slice_index row_of (slice_index item.members 0)) row
      → get_or (identifiers_of problem rows) number 0 ≡ row.id
  identifier_is row is =
      ap (λ is. get_or (map (frame_of_item problem rows) is) number 0) (sym same)
      ∙ get_or-map (frame_of_item problem rows) items number item 0 lt
      ∙ ap (frame_of_item problem rows) (sym at)
      ∙ (item_row row is).id

-- an item is no larger than a frame
pub small_at : (problem : Parts) → IsProblem problem → (items : List Item) → items ≡ problem.items
    → (number : ℕ) (item : Item) → number < length items → item ≡ get_or items number item → item.bits ≤ 512
small_at problem stands items same number item lt at =
    subst (λ (i : Item). i.bits ≤ 512) (sym at)
    (subst (All (λ (i : Item). i.bits ≤ 512)) (sym same) (small_items problem stands) number item lt)

-- one more label
pub labels_more : (problem : Parts) (rows : List MatrixRow) (labels : List ℕ) (number label id : ℕ)
    → number < length problem.items → number < length labels
    → get_or (identifiers_of problem rows) number 0 ≡ id
    → label ≡ label_in (frame_identifiers problem rows) id
    → take number labels ≡ take number (grouping_of problem rows)
    → take (number + 1) (set labels number label) ≡ take (number + 1) (grouping_of problem rows)
labels_more problem rows labels number label id lt room at is so_far =
    let in_ids : number < length (identifiers_of problem rows) = simp length-map lt in
    let in_labels : number < length (grouping_of problem rows) = simp length-map lt in
    let here : get_or (grouping_of problem rows) number 0 ≡ label =
    get_or-map (label_in (frame_identifiers problem rows)) (identifiers_of problem rows) number 0 0 in_ids
    ∙ ap (label_in (frame_identifiers problem rows)) at ∙ sym is in
    take_more_set labels number label room ∙ ap (λ l. l ++ label ∷ []) so_far
    ∙ sym (take_more (grouping_of problem rows) number 0 in_labels
    ∙ ap (λ n. take number (grouping_of problem rows) ++ n ∷ []) here)
