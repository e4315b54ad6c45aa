-- Where a matrix that was laid out has the items: their frames, and the bytes at which their parts begin.
use Rattle.std.proofs.Common.{◌≡◌, ℕ, ◌+◌, ◌<◌, ◌⊎◌, List, [], length, get_or, take, find, slice_get, nat_eq, count_by, Contains, Some, inl, inr, refl, sym, ap, subst, ◌∙◌, arith, eq-eqb}
use Rattle.std.specs.List.{position_or_len}
use Rattle.std.specs.Option.{option_map_or}
use Rattle.std.proofs.lemmas.Bool.{cases_eq, ne_eqb}
use Rattle.std.proofs.lemmas.List.{get_or_default}
use Rattle.std.proofs.lemmas.List.Sums.{position_or_len_is}
use Rattle.std.proofs.lemmas.Option.{slice_get-get_or}
use Rattle.pack_model.specs.declared.signal.Signal.{Signal}
use Rattle.pack_model.specs.declared.item.Item.{Item}
use Rattle.pack_model.specs.Problem.{Parts, IsProblem, IsSorted}
use Rattle.class_frame.specs.Grouping.{IsOrder, class_of}
use Rattle.pack_model.proofs.ItemFacts.{IsItemOf, items_of_signals, one_item}
use Rattle.class_frame.specs.Legal.{IsLegal}
use Rattle.class_frame.specs.Frame.{header_of_items}
use Rattle.matrix_rows.specs.declared.matrix.MatrixRow.{MatrixRow}
use Rattle.placed_matrix.specs.Items.{is_named, name_of_item, frame_of_item, at_of_item, items_in_frame}
use Rattle.matrix_layout.specs.LaidOut.{rows_of}
use Rattle.placed_matrix.proofs.Counts.{count_two}
use Rattle.placed_matrix.proofs.RowsFound.{name_at, name_is}
use Rattle.matrix_layout.proofs.ClassItems.{IsFrom, from_list, filter-class}
use Rattle.matrix_layout.proofs.PartItems.{none_item, at_after}
use Rattle.matrix_layout.proofs.LaidRows.{class_at, IsLaid, found_row}

-- the place of what stands at a place of an order is that place
pub place_is : (labels order : List ℕ) → IsOrder labels order → (k : ℕ) → k < length order
    → position_or_len (nat_eq (get_or order k 0)) order ≡ k
place_is labels order named k lt =
    position_or_len_is (nat_eq (get_or order k 0)) order k 0 (omega arith)
    (λ j before. ne_eqb (get_or order k 0) (get_or order j 0) (λ same. two j before (sym same)))
    (λ _. eq-eqb (get_or order k 0) (get_or order k 0) refl)
  where
    two : (j : ℕ) → j < k → get_or order j 0 ≡ get_or order k 0 → ⊥
    two j before same =
        let once : count_by (λ x. nat_eq x (get_or order k 0)) order ≡ 1 =
        named.once (get_or order k 0) (named.only k 0 lt) in
        omega (
          arith,
          once,
          count_two (λ x. nat_eq x (get_or order k 0)) order j k 0 before lt
              (eq-eqb (get_or order j 0) (get_or order k 0) same)
              (eq-eqb (get_or order k 0) (get_or order k 0) refl),
        )

module _ (problem : Parts) (labels order : List ℕ) (stands : IsProblem problem)
    (sorted : IsSorted problem.signals problem.items) (legal : IsLegal problem.items labels)
    (named : IsOrder labels order) where
  -- where the item of a row is from
  abbrev pub item_from : (row : MatrixRow) (laid : IsLaid problem labels order row)
      → IsFrom (get_or order laid.place 0) labels problem.items laid.placed.item
  item_from row laid =
      from_list (get_or order laid.place 0) labels problem.items laid.placed.item laid.placed.within

  -- the number of the item of a row
  abbrev pub item_number : (row : MatrixRow) → IsLaid problem labels order row → ℕ
  item_number row laid = (item_from row laid).number

  -- the signal of a row is a member of its item
  in_item : (row : MatrixRow) (laid : IsLaid problem labels order row)
      → Contains (get_or problem.items (item_number row laid) none_item).members
      (get_or laid.part.places laid.number 0)
  in_item row laid =
      subst (λ (y : Item). Contains y.members (get_or laid.part.places laid.number 0))
      ((item_from row laid).same none_item) laid.placed.member

  -- a row of an item
  pub record IsRowOf (i : ℕ) : Type 0 where
    pub row : MatrixRow
    pub found : find (is_named (name_of_item problem.signals (get_or problem.items i none_item)))
        (rows_of problem labels order) ≡ Some row
    pub laid : IsLaid problem labels order row
    pub of : item_number row laid ≡ i

  -- the row of an item's first signal
  pub row_of_item : (i : ℕ) → i < length problem.items → IsRowOf i
  row_of_item i lt =
      by (get_or problem.items i none_item) refl
      (items_of_signals problem.signals problem.items sorted i none_item lt)
    where
      by : (item : Item) → get_or problem.items i none_item ≡ item → IsItemOf problem.signals item → IsRowOf i
      by item at of =
          let found = found_row problem labels order stands sorted legal named of.place of.within in
          let name : name_of_item problem.signals (get_or problem.items i none_item)
          ≡ name_at problem.signals of.place =
          ap (λ (y : Item). name_of_item problem.signals y) at
          ∙ ap (λ ms. option_map_or (λ (s : Signal). s.name) (slice_get problem.signals (get_or ms 0 0)) [])
          of.members
          ∙ ap (λ o. option_map_or (λ (s : Signal). s.name) o [])
          (slice_get-get_or problem.signals of.place of.signal of.within)
          ∙ sym (name_is problem.signals of.place of.signal of.within) in
          let first : Contains (get_or problem.items i none_item).members of.place =
          subst (λ ms. Contains ms of.place) (sym (ap (λ (y : Item). y.members) at ∙ of.members))
          (0, omega arith, refl) in
          let also : Contains (get_or problem.items (item_number found.row found.laid) none_item).members
          of.place =
          subst (λ m. Contains (get_or problem.items (item_number found.row found.laid) none_item).members
          m) found.of (in_item found.row found.laid) in
          record {
            row = found.row;
            found = ap (λ n. find (is_named n) (rows_of problem labels order)) name ∙ found.found;
            laid = found.laid;
            of =
                one_item problem.signals problem.items sorted
                (item_number found.row found.laid) i of.place none_item
                (item_from found.row found.laid).within lt also first;
          }

  -- the label of a row's item is that of its class
  label_of : (i : ℕ) (here : IsRowOf i) → get_or order here.laid.place 0 ≡ get_or labels i 0
  label_of i here = sym (item_from here.row here.laid).labelled ∙ ap (λ k. get_or labels k 0) here.of

  -- an item's frame is that of its class
  pub frame_of_laid : (i : ℕ) (d : Item) → i < length problem.items
      → frame_of_item problem (rows_of problem labels order) (get_or problem.items i d)
      ≡ problem.network.first_id + position_or_len (nat_eq (get_or labels i 0)) order
  frame_of_laid i d lt =
      let here = row_of_item i lt in
      ap (λ (y : Item). frame_of_item problem (rows_of problem labels order) y)
      (get_or_default problem.items i d none_item lt)
      ∙ ap (λ o. option_map_or (λ (r : MatrixRow). r.id) o 0) here.found
      ∙ ap (λ (r : MatrixRow). r.id) here.laid.is
      ∙ ap (λ p. problem.network.first_id + p)
      (sym (place_is labels order named here.laid.place here.laid.in_order)
      ∙ ap (λ l. position_or_len (nat_eq l) order) (label_of i here))

  -- an item's part begins after those of the items before it in its class
  pub at_of_laid : (i : ℕ) (d : Item) → i < length problem.items
      → at_of_item problem (rows_of problem labels order) (get_or problem.items i d)
      ≡ at_after (header_of_items (class_of (get_or labels i 0) labels problem.items))
      (class_of (get_or labels i 0) (take i labels) (take i problem.items))
  at_of_laid i d lt =
      let here = row_of_item i lt in
      ap (λ (y : Item). at_of_item problem (rows_of problem labels order) y)
      (get_or_default problem.items i d none_item lt)
      ∙ ap (λ o. option_map_or (λ (r : MatrixRow). r.at) o 0) here.found
      ∙ ap (λ (r : MatrixRow). r.at) here.laid.is
      ∙ here.laid.placed.begins
      ∙ ap (at_after (header_of_items (class_at problem labels order here.laid.place)))
      (item_from here.row here.laid).before
      ∙ ap (λ l. at_after (header_of_items (class_of l labels problem.items))
      (class_of l (take (item_number here.row here.laid) labels)
      (take (item_number here.row here.laid) problem.items))) (label_of i here)
      ∙ ap (λ k. at_after (header_of_items (class_of (get_or labels i 0) labels problem.items))
      (class_of (get_or labels i 0) (take k labels) (take k problem.items))) here.of

  -- the items of a frame are those of its class
  pub items_in_frame_laid : (place : ℕ) → place < length order
      → items_in_frame problem (rows_of problem labels order) (problem.network.first_id + place)
      ≡ class_of (get_or order place 0) labels problem.items
  items_in_frame_laid place lt =
      filter-class (λ item. nat_eq (frame_of_item problem (rows_of problem labels order) item)
      (problem.network.first_id + place)) (get_or order place 0) labels problem.items legal.grouping.each
      (λ i d within. ap (λ n. nat_eq n (problem.network.first_id + place)) (frame_of_laid i d within)
      ∙ by i within (cases_eq (get_or labels i 0) (get_or order place 0)))
    where
      by : (i : ℕ) → i < length problem.items
          → (get_or labels i 0 ≡ get_or order place 0) ⊎ (get_or labels i 0 ≡ get_or order place 0 → ⊥)
          → nat_eq (problem.network.first_id + position_or_len (nat_eq (get_or labels i 0)) order)
          (problem.network.first_id + place) ≡ nat_eq (get_or labels i 0) (get_or order place 0)
      by i within (inl same) =
          let at : position_or_len (nat_eq (get_or labels i 0)) order ≡ place =
          ap (λ l. position_or_len (nat_eq l) order) same ∙ place_is labels order named place lt in
          eq-eqb (problem.network.first_id + position_or_len (nat_eq (get_or labels i 0)) order)
          (problem.network.first_id + place) (ap (λ p. problem.network.first_id + p) at)
          ∙ sym (eq-eqb (get_or labels i 0) (get_or order place 0) same)
      by i within (inr differ) =
          let here = row_of_item i within in
          let at : position_or_len (nat_eq (get_or labels i 0)) order ≡ here.laid.place =
          ap (λ l. position_or_len (nat_eq l) order) (sym (label_of i here))
          ∙ place_is labels order named here.laid.place here.laid.in_order in
          ne_eqb (problem.network.first_id + position_or_len (nat_eq (get_or labels i 0)) order)
          (problem.network.first_id + place)
          (λ e. differ (sym (label_of i here)
          ∙ ap (λ p. get_or order p 0)
          (let equal : here.laid.place ≡ place = omega (arith, e, at) in equal)))
          ∙ sym (ne_eqb (get_or labels i 0) (get_or order place 0) differ)
