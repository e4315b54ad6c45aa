-- The grouping of a placed matrix is legal: each of its classes can be a frame, since it is one.
use Rattle.std.proofs.Common.{◌≡◌, ℕ, ◌<◌, ◌≤◌, ◌⊎◌, List, [], length, get_or, nat_eq, inl, inr, sym, ap, subst, ◌∙◌, arith, All, AllPairs, None, Some, is_some, eqb-true}
use Rattle.std.specs.Str.{bytes_eq}
use Rattle.std.specs.List.{position_or_len}
use Rattle.std.proofs.lemmas.Bool.{cases_lt, ne_eqb}
use Rattle.std.proofs.lemmas.List.{get_or_default}
use Rattle.std.proofs.lemmas.List.Elements.{All-map, All-filter, filter_passes}
use Rattle.fd_length.specs.Size.{fd_size_of}
use Rattle.fd_length.proofs.Sizes.{fd_size_of-none}
use Rattle.pack_model.specs.declared.item.Item.{Item}
use Rattle.pack_model.specs.Problem.{Parts, IsProblem, IsSorted, senders_of}
use Rattle.class_frame.specs.Frame.{is_pdu, bytes_of_items}
use Rattle.class_frame.specs.Grouping.{class_of}
use Rattle.class_frame.specs.Legal.{ClassStands, IsLegal}
use Rattle.matrix_rows.specs.declared.matrix.MatrixRow.{MatrixRow}
use Rattle.placed_matrix.specs.Items.{frame_of_item, items_in_frame}
use Rattle.placed_matrix.specs.Placed.{Placed, SameFrame}
use Rattle.placed_matrix.specs.Frames.{label_in, identifiers_of, frame_identifiers, grouping_of}
use Rattle.placed_matrix.specs.Tables.{HasRows}
use Rattle.placed_matrix.proofs.FrameClasses.{class_of-labelled, class_of_label, label_low, label_of_item}
use Rattle.placed_matrix.proofs.FrameLabels.{is_grouping}
use Rattle.placed_matrix.proofs.InOrder.{All-distinct}
use Rattle.placed_matrix.proofs.ItemsSoFar.{none_kept}
use Rattle.placed_matrix.proofs.RowItems.{row_of_item, either, one_kind}

-- pairs of equal values where each value is one
pairs_of_one : {X Y : Type 0} (f : X → Y) (y : Y) (xs : List X) → All (λ x. f x ≡ y) xs
    → AllPairs (λ x z. f x ≡ f z) xs
pairs_of_one f y xs all i j d before within = all i d (omega (arith, before, within)) ∙ sym (all j d within)

-- no items can be a frame
none_stands : ClassStands []
none_stands =
    record {
      one_sender = λ i j d before within. absurd (omega arith);
      one_kind = λ i j d before within. absurd (omega arith);
      small = omega arith;
    }

module _ (problem : Parts) (stands : IsProblem problem) (sorted : IsSorted problem.signals problem.items)
    (rows : List MatrixRow) (placed : Placed problem rows) (row_of : List ℕ)
    (has : HasRows problem.signals rows row_of) where
  -- a row of an identifier
  record RowIn (id : ℕ) : Type 0 where
    row : MatrixRow
    number : ℕ
    within : number < length rows
    at : row ≡ get_or rows number row
    is : row.id ≡ id

  -- rows of one frame have one sender
  one_sender : (i j : ℕ) (row other : MatrixRow) → i < length rows → j < length rows → row ≡ get_or rows i row
      → other ≡ get_or rows j other → row.id ≡ other.id → row.sender ≡ other.sender
  one_sender i j row other lt lt2 at at2 same =
      by (either rows (λ r o. r.id ≡ o.id → SameFrame r o) placed.frames_agree i j row other lt lt2 at at2)
    where
      by : (row ≡ other) ⊎ ((row.id ≡ other.id → SameFrame row other)
          ⊎ (other.id ≡ row.id → SameFrame other row)) → row.sender ≡ other.sender
      by (inl one) = ap (λ (r : MatrixRow). r.sender) one
      by (inr (inl agree)) = (agree same).sender
      by (inr (inr agree)) = sym (agree (sym same)).sender

  -- an item in the frame of a row has its row's sender and kind
  record IsLike (row : MatrixRow) (item : Item) : Type 0 where
    sender : item.sender ≡ position_or_len (bytes_eq row.sender) (senders_of problem.signals)
    kind : is_pdu item ≡ is_some row.pdu

  like : (id : ℕ) (r : RowIn id) → All (IsLike r.row) (items_in_frame problem rows id)
  like id r k d lt =
      (All-filter (λ item. nat_eq (frame_of_item problem rows item) id)
      (λ item. frame_of_item problem rows item ≡ id → IsLike r.row item) problem.items each) k d lt
      (eqb-true _ _ (filter_passes
      (λ item. nat_eq (frame_of_item problem rows item) id) problem.items k d lt))
    where
      each : All (λ item. frame_of_item problem rows item ≡ id → IsLike r.row item) problem.items
      each n x lt same =
          let (row, of, number) =
          row_of_item problem stands sorted rows placed.one_row row_of has n (get_or problem.items n x) lt
          (get_or_default problem.items n x (get_or problem.items n x) lt) in
          let one : row.id ≡ r.row.id = sym of.id ∙ same ∙ sym r.is in
          record {
            sender =
                of.sender ∙ ap (λ name. position_or_len (bytes_eq name) (senders_of problem.signals))
                (one_sender of.number r.number row r.row of.within r.within of.at r.at one);
            kind =
                ap is_some of.pdu ∙ one_kind rows
                (λ i j e before within. (placed.one_kind i j e before within).kind) of.number r.number row
                r.row of.within r.within of.at r.at one;
          }

  -- the items of a frame that has a row can be a frame
  frame_stands : (id : ℕ) → RowIn id → ClassStands (items_in_frame problem rows id)
  frame_stands id r = record {
    one_sender =
        pairs_of_one (λ (item : Item). item.sender) _ (items_in_frame problem rows id)
        (λ k d lt. (like id r k d lt).sender);
    one_kind = pairs_of_one is_pdu _ (items_in_frame problem rows id) (λ k d lt. (like id r k d lt).kind);
    small = by (cases_lt 64 (bytes_of_items (items_in_frame problem rows id)));
  }
    where
      by : (64 < bytes_of_items (items_in_frame problem rows id))
          ⊎ (bytes_of_items (items_in_frame problem rows id) ≤ 64)
          → bytes_of_items (items_in_frame problem rows id) ≤ 64
      by (inr few) = few
      by (inl many) =
          let fits = placed.size_and_ticks r.number r.row r.within in
          let id_is : (get_or rows r.number r.row).id ≡ id = ap (λ (x : MatrixRow). x.id) (sym r.at) ∙ r.is in
          absurd (let wrong : Some (get_or rows r.number r.row).size ≡ None = sym fits.size
          ∙ ap (λ n. fd_size_of (bytes_of_items (items_in_frame problem rows n))) id_is
          ∙ fd_size_of-none _ many in cc)

  -- each frame has a row
  has_row : All RowIn (frame_identifiers problem rows)
  has_row =
      All-distinct RowIn (identifiers_of problem rows)
      (All-map RowIn (frame_of_item problem rows) problem.items (λ k d lt. of_item k d lt))
    where
      of_item : (k : ℕ) (d : Item) → k < length problem.items
          → RowIn (frame_of_item problem rows (get_or problem.items k d))
      of_item k d lt =
          let (row, of, number) =
          row_of_item problem stands sorted rows placed.one_row row_of has k (get_or problem.items k d) lt
          (get_or_default problem.items k d (get_or problem.items k d) lt) in
          record { row = row; number = of.number; within = of.within; at = of.at; is = sym of.id }

  -- each label's class can be a frame
  class_stands : (label : ℕ) → ClassStands (class_of label (grouping_of problem rows) problem.items)
  class_stands label = by (cases_lt label (length (frame_identifiers problem rows)))
    where
      by : (label < length (frame_identifiers problem rows))
          ⊎ (length (frame_identifiers problem rows) ≤ label)
          → ClassStands (class_of label (grouping_of problem rows) problem.items)
      by (inl lt) =
          subst ClassStands (sym (class_of_label problem rows label lt))
          (frame_stands (get_or (frame_identifiers problem rows) label 0) (has_row label 0 lt))
      by (inr ge) =
          subst ClassStands
          (sym (class_of-labelled (label_in (frame_identifiers problem rows))
          (frame_of_item problem rows) label problem.items
          ∙ none_kept (λ item. nat_eq
          (label_in (frame_identifiers problem rows) (frame_of_item problem rows item)) label)
          problem.items
          (λ k d lt. ne_eqb _ label
          (λ same. omega (arith, same, label_of_item problem rows k d lt, label_low problem rows k lt)))))
          none_stands

  pub is_legal : IsLegal problem.items (grouping_of problem rows)
  is_legal = record { grouping = is_grouping problem rows; classes = class_stands }
