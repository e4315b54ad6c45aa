-- Parts of a frame lie in it, and a header is part of none.
use Rattle.std.proofs.Common.{◌≡◌, ◌≢◌, ℕ, ◌+◌, ◌<◌, ◌≤◌, ◌⊎◌, ◌==◌, true, List, length, get_or, sum_by, inl, inr, nat_eq, nat_lt, sym, ap, refl, ◌∙◌, arith, All, AllPairs, Contains, Option, None, Some, is_some, eq-eqb, eqb-true}
use Rattle.std.proofs.lemmas.Bool.{lt-ltb, le-ltb, ltb-true}
use Rattle.std.proofs.lemmas.List.{get_or_default}
use Rattle.std.proofs.lemmas.List.Elements.{All-filter, filter_passes}
use Rattle.std.proofs.lemmas.List.Sums.{get_or-le-sum_by}
use Rattle.pack_model.specs.declared.item.Item.{Item}
use Rattle.pack_model.specs.Problem.{Parts, IsProblem, IsSorted}
use Rattle.pack_model.proofs.PlacedLaws.{Contains-filter}
use Rattle.container_pdu.specs.declared.header.Header.{Header}
use Rattle.container_pdu.specs.declared.header.Header.TheVariants.{NoHeader, Short, Long}
use Rattle.container_pdu.specs.Bytes.{header_bytes}
use Rattle.class_frame.specs.Frame.{header_of_items, bytes_of_item, bytes_of_items}
use Rattle.matrix_rows.specs.declared.matrix.MatrixRow.{MatrixRow}
use Rattle.placed_matrix.specs.Items.{frame_of_item, at_of_item, items_in_frame}
use Rattle.placed_matrix.specs.Placed.{OneRow, part_bytes, bytes_before}
use Rattle.placed_matrix.specs.Tables.{HasRows, SamePart, SameKind, RowFits}
use Rattle.placed_matrix.proofs.ItemRows.{bytes_of_one}
use Rattle.placed_matrix.proofs.PartSums.{sum_with, sum_within, free_header, pdu_bytes_sum}
use Rattle.placed_matrix.proofs.RowItems.{one_kind, row_of_item, item_of_row}

-- there is a header or none
pub has_header : (header : Header) → (header ≡ NoHeader) ⊎ (header ≢ NoHeader)
has_header NoHeader = inl refl
has_header Short = inr (λ e. let wrong : Short ≡ NoHeader = e in cc)
has_header Long = inr (λ e. let wrong : Long ≡ NoHeader = e in cc)

module _ (problem : Parts) (stands : IsProblem problem) (sorted : IsSorted problem.signals problem.items)
    (rows : List MatrixRow) (one : OneRow problem.signals rows) (row_of : List ℕ)
    (has : HasRows problem.signals rows row_of)
    (kinds : AllPairs SameKind rows) (parts : AllPairs SamePart rows) where
  -- the bytes of an item under the header of a frame
  abbrev under : ℕ → Item → ℕ
  under id item = header_bytes (header_of_items (items_in_frame problem rows id)) + bytes_of_item item

  -- the items of a row's frame are of its kind
  kind_in_frame : (k : ℕ) (row : MatrixRow) → k < length rows → row ≡ get_or rows k row
      → All (λ item. is_some item.pdu ≡ is_some row.pdu) (items_in_frame problem rows row.id)
  kind_in_frame k row lt at j d inside =
      All-filter (λ item. frame_of_item problem rows item == row.id)
      (λ item. nat_eq (frame_of_item problem rows item) row.id ≡ true
      → is_some item.pdu ≡ is_some row.pdu) problem.items each j d inside
      (filter_passes (λ item. frame_of_item problem rows item == row.id) problem.items j d inside)
    where
      each : All (λ item. nat_eq (frame_of_item problem rows item) row.id ≡ true
          → is_some item.pdu ≡ is_some row.pdu) problem.items
      each n d lt2 passes =
          let item : Item = get_or problem.items n d in
          let (other, is, number) =
          row_of_item problem stands sorted rows one row_of has n (get_or problem.items n d) lt2
          (get_or_default problem.items n d (get_or problem.items n d) lt2) in
          ap is_some is.pdu ∙ one_kind rows kinds is.number k other row is.within lt is.at at
          (sym is.id ∙ eqb-true _ _ passes)

  module _ (k : ℕ) (row : MatrixRow) (lt : k < length rows) (at : row ≡ get_or rows k row)
      (fits : RowFits problem rows row) where
    -- a free row's frame has no header
    pub free_row : row.pdu ≡ None → row.header ≡ NoHeader
    free_row free = fits.header
        ∙ free_header (items_in_frame problem rows row.id)
        (λ j d inside. kind_in_frame k row lt at j d inside ∙ ap is_some free)

    -- the item of a row of an I-PDU
    record PduOf (id : ℕ) : Type 0 where
      item : Item
      here : Contains (items_in_frame problem rows row.id) item
      begins : at_of_item problem rows item ≡ row.at
      bytes : bytes_of_item item ≡ part_bytes problem rows row.id (Some id)
      total : sum_by (under row.id) (items_in_frame problem rows row.id)
          ≡ bytes_of_items (items_in_frame problem rows row.id)

    pdu_of : (id : ℕ) → row.pdu ≡ Some id → PduOf id
    pdu_of id is =
        let (item, of) = item_of_row problem stands sorted rows one row_of has parts k row lt at in
        let here : Contains (items_in_frame problem rows row.id) item =
        Contains-filter (λ i. frame_of_item problem rows i == row.id) problem.items item
        (of.number, of.within, sym of.at) (eq-eqb _ _ of.id) in
        record {
          item = item;
          here = here;
          begins = of.begins;
          bytes =
              bytes_of_one problem.signals problem.items sorted of.number id item of.within of.at
              (of.pdu ∙ is);
          total =
              pdu_bytes_sum (items_in_frame problem rows row.id)
              (let (j, inside, there) = here in omega (arith, inside))
              (λ j d inside. kind_in_frame k row lt at j d inside ∙ ap is_some is);
        }

    -- a row's part lies in the frame's bytes
    pub part_within : row.at + part_bytes problem rows row.id row.pdu
        ≤ bytes_of_items (items_in_frame problem rows row.id)
    part_within = by row.pdu refl (has_header row.header)
      where
        by : (o : Option ℕ) → row.pdu ≡ o → (row.header ≡ NoHeader) ⊎ (row.header ≢ NoHeader)
            → row.at + part_bytes problem rows row.id o ≤ bytes_of_items (items_in_frame problem rows row.id)
        by None e _ = omega (arith, fits.in_a_row.alone (free_row e))
        by (Some id) e (inl none) =
            let of = pdu_of id e in
            let (j, inside, there) = of.here in
            omega (
              arith,
              fits.in_a_row.alone none,
              of.bytes,
              of.total,
              get_or-le-sum_by (under row.id) (items_in_frame problem rows row.id) j of.item inside,
              ap (under row.id) there,
            )
        by (Some id) e (inr some) =
            let of = pdu_of id e in
            let (j, inside, there) = of.here in
            let step : bytes_before problem rows row.id row.at + under row.id of.item
            ≤ sum_by (under row.id) (items_in_frame problem rows row.id) =
            sum_within (under row.id) (λ item. nat_lt (at_of_item problem rows item) row.at)
            (items_in_frame problem rows row.id) j of.item inside there
            (le-ltb _ _ (omega (arith, of.begins))) in
            omega (arith, fits.in_a_row.among some, ap header_bytes fits.header, of.bytes, of.total, step)

    -- in a container it ends before the header of a part that begins later
    pub part_before : (other : MatrixRow) → RowFits problem rows other → row.id ≡ other.id
        → other.header ≢ NoHeader → row.at < other.at
        → row.at + part_bytes problem rows row.id row.pdu + header_bytes other.header ≤ other.at
    part_before other fits2 same some before = by row.pdu refl
      where
        headers : row.header ≡ other.header
        headers = fits.header ∙ ap (λ id. header_of_items (items_in_frame problem rows id)) same
            ∙ sym fits2.header

        by : (o : Option ℕ) → row.pdu ≡ o
            → row.at + part_bytes problem rows row.id o + header_bytes other.header ≤ other.at
        by None e = absurd (some (sym headers ∙ free_row e))
        by (Some id) e =
            let of = pdu_of id e in
            let (j, inside, there) = of.here in
            let step : bytes_before problem rows row.id row.at + under row.id of.item
            ≤ bytes_before problem rows row.id other.at =
            sum_with (under row.id) (λ item. nat_lt (at_of_item problem rows item) row.at)
            (λ item. nat_lt (at_of_item problem rows item) other.at)
            (λ item h. lt-ltb _ _ (omega (arith, ltb-true _ _ h, before)))
            (items_in_frame problem rows row.id) j of.item inside there
            (le-ltb _ _ (omega (arith, of.begins))) (lt-ltb _ _ (omega (arith, of.begins, before))) in
            let mine : row.at ≡ header_bytes row.header + bytes_before problem rows row.id row.at =
            fits.in_a_row.among (λ e. some (sym headers ∙ e)) in
            let its : other.at ≡ header_bytes other.header + bytes_before problem rows row.id other.at =
            fits2.in_a_row.among some
            ∙ ap (λ n. header_bytes other.header + bytes_before problem rows n other.at) (sym same) in
            omega (arith, step, mine, its, ap header_bytes fits.header, ap header_bytes headers, of.bytes)
