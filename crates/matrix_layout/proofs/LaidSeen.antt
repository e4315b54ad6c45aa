-- What the rows of one frame of a matrix that was laid out say, each by the item that it is of.
use Rattle.std.proofs.Common.{◌≡◌, ℕ, ◌+◌, ◌*◌, ◌<◌, ◌≤◌, ◌⊎◌, Bool, true, false, List, [], length, get_or, take, sum, sum_by, filter, is_some, All, Option, Some, None, inl, inr, refl, sym, ap, subst, ◌∙◌, arith}
use Rattle.std.specs.Prelude.{slice_index_or}
use Rattle.std.specs.List.{flat_map}
use Rattle.std.specs.Option.{unwrap_or}
use Rattle.std.proofs.lemmas.Grind.{div_ceil_times}
use Rattle.std.proofs.lemmas.List.{get_or-map, get_or_default, length-map}
use Rattle.std.proofs.lemmas.List.Sums.{sum_by_more_le, sum-map}
use Rattle.pack_model.specs.declared.signal.Signal.{Signal}
use Rattle.pack_model.specs.declared.item.Item.{Item}
use Rattle.pack_model.specs.Signal.{same_pdu}
use Rattle.pack_model.specs.Problem.{Parts, IsProblem, IsSorted}
use Rattle.class_frame.specs.Grouping.{IsOrder}
use Rattle.class_frame.proofs.GroupingLaws.{All-class_of}
use Rattle.pack_model.proofs.ItemFacts.{members_pdu, members_sender, bits_of_members, bits_of_pdu}
use Rattle.container_pdu.specs.declared.header.Header.TheVariants.{NoHeader}
use Rattle.class_frame.specs.Legal.{IsLegal}
use Rattle.class_frame.specs.Frame.{header_of_items, is_pdu, bytes_of_item, bytes_of_items, size_of_items}
use Rattle.fd_length.specs.Size.{fd_size_of}
use Rattle.fd_length.proofs.Sizes.{fd_size_of-some}
use Rattle.frame_ticks.specs.Worst.{worst_ticks_of}
use Rattle.ipdu_layout.specs.Layout.{start_of}
use Rattle.matrix_rows.specs.declared.matrix.MatrixRow.{MatrixRow}
use Rattle.matrix_layout.specs.LaidOut.{signals_at, widths_of}
use Rattle.matrix_layout.proofs.SumLaws.{sum_by-flat_map, sum_by-same}
use Rattle.placed_matrix.proofs.RowsFound.{name_at}
use Rattle.matrix_layout.proofs.ClassItems.{from_list}
use Rattle.matrix_layout.proofs.ClassBytes.{header_cases, free_header, free_bytes, single_members, pairs_agree, part_ends}
use Rattle.matrix_layout.proofs.PartItems.{none_item, at_after}
use Rattle.matrix_layout.proofs.LaidSums.{signals_at-items}
use Rattle.matrix_layout.proofs.Picked.{length-pick, get_or-pick}
use Rattle.matrix_layout.proofs.LaidRows.{class_at, IsLaid, row_name}

-- the row is of the item of a number in the class that the order names at a place
pub record IsSeen (problem : Parts) (labels order : List ℕ) (place : ℕ) (row : MatrixRow) : Type 0 where
  pub item : ℕ
  pub within : item < length (class_at problem labels order place)
  pub id : row.id ≡ problem.network.first_id + place
  pub size : row.size ≡ unwrap_or (size_of_items (class_at problem labels order place)) 0
  pub ticks : row.ticks ≡ worst_ticks_of problem.network
      (unwrap_or (size_of_items (class_at problem labels order place)) 0)
  pub header : row.header ≡ header_of_items (class_at problem labels order place)
  pub begins : row.at ≡ at_after (header_of_items (class_at problem labels order place))
      (take item (class_at problem labels order place))
  pub pdu : row.pdu ≡ (get_or (class_at problem labels order place) item none_item).pdu
  pub sender : row.sender ≡ slice_index_or problem.senders
      (get_or (class_at problem labels order place) item none_item).sender []
  pub number : ℕ
  pub places : List ℕ
  pub in_part : number < length places
  pub all_in : All (λ m. m < length problem.signals) places
  pub named : row.signal ≡ name_at problem.signals (get_or places number 0)
  pub starts : row.start ≡ 8 * row.at + start_of (widths_of (signals_at problem.signals places)) number
  pub bits : row.bits ≡ get_or (widths_of (signals_at problem.signals places)) number 0
  pub whole : header_of_items (class_at problem labels order place) ≡ NoHeader
      → places ≡ flat_map (λ y. y.members) (class_at problem labels order place)
  pub own : (header_of_items (class_at problem labels order place) ≡ NoHeader → ⊥)
      → places ≡ (get_or (class_at problem labels order place) item none_item).members

module _ (problem : Parts) (labels order : List ℕ) (stands : IsProblem problem)
    (sorted : IsSorted problem.signals problem.items) (legal : IsLegal problem.items labels)
    (named : IsOrder labels order) where
  -- what a row's signal has of its item
  row_seen : (row : MatrixRow) (laid : IsLaid problem labels order row)
      → IsSeen problem labels order laid.place row
  row_seen row laid =
      let from =
      from_list (get_or order laid.place 0) labels problem.items laid.placed.item laid.placed.within in
      let (j, within, is) = laid.placed.member in
      let m = get_or laid.part.places laid.number 0 in
      let inside : j < length (get_or problem.items from.number none_item).members =
      subst (λ (y : Item). j < length y.members) (from.same none_item) within in
      let here : get_or (get_or problem.items from.number none_item).members j
      (get_or laid.part.places laid.number 0) ≡ get_or laid.part.places laid.number 0 =
      ap (λ (y : Item). get_or y.members j (get_or laid.part.places laid.number 0))
      (sym (from.same none_item)) ∙ is in
      let in_signals : laid.number < length (signals_at problem.signals laid.part.places) =
      omega (arith, laid.in_part, length-pick problem.signals laid.part.places laid.all_in) in
      record {
        item = laid.placed.item;
        within = laid.placed.within;
        id = ap (λ (r : MatrixRow). r.id) laid.is;
        size = ap (λ (r : MatrixRow). r.size) laid.is;
        ticks = ap (λ (r : MatrixRow). r.ticks) laid.is;
        header = ap (λ (r : MatrixRow). r.header) laid.is;
        begins = ap (λ (r : MatrixRow). r.at) laid.is ∙ laid.placed.begins;
        pdu = ap (λ (r : MatrixRow). r.pdu) laid.is ∙ ap (λ (s : Signal). s.pdu) laid.at
            ∙ ap (λ n. (get_or problem.signals n laid.signal).pdu) (sym here)
            ∙ members_pdu problem.signals problem.items sorted from.number none_item from.within j
            (get_or laid.part.places laid.number 0) inside laid.signal
            ∙ ap (λ (y : Item). y.pdu) (sym (from.same none_item));
        sender = ap (λ (r : MatrixRow). r.sender) laid.is ∙ ap (λ (s : Signal). s.sender) laid.at
            ∙ ap (λ n. (get_or problem.signals n laid.signal).sender) (sym here)
            ∙ members_sender problem stands from.number none_item from.within j
            (get_or laid.part.places laid.number 0) inside laid.signal
            ∙ ap (λ (y : Item). slice_index_or problem.senders y.sender []) (sym (from.same none_item));
        number = laid.number;
        places = laid.part.places;
        in_part = laid.in_part;
        all_in = laid.all_in;
        named = row_name problem labels order stands sorted legal named row laid;
        starts = ap (λ (r : MatrixRow). r.start) laid.is
            ∙ ap (λ n. 8 * n + start_of (widths_of (signals_at problem.signals laid.part.places)) laid.number)
            (sym (ap (λ (r : MatrixRow). r.at) laid.is));
        bits = ap (λ (r : MatrixRow). r.bits) laid.is
            ∙ ap (λ (s : Signal). s.bits)
            (laid.at ∙ sym (get_or-pick problem.signals laid.part.places laid.all_in laid.number laid.signal
            laid.in_part))
            ∙ sym (get_or-map (λ (s : Signal). s.bits)
            (signals_at problem.signals laid.part.places) laid.number laid.signal 0 in_signals);
        whole = laid.placed.whole;
        own = laid.placed.own;
      }

  pub seen : (row : MatrixRow) → IsLaid problem labels order row
      → (place : ℕ) × (place < length order) × IsSeen problem labels order place row
  seen row laid = (laid.place, laid.in_order, row_seen row laid)

  module _ (place : ℕ) where
    abbrev items : List Item
    items = class_at problem labels order place

    -- a signal ends within the bits of its part
    pub row_ends : (row : MatrixRow) (is : IsSeen problem labels order place row)
        → row.start + row.bits ≤ 8 * row.at + sum (widths_of (signals_at problem.signals is.places))
    row_ends row is =
        let within : is.number < length (widths_of (signals_at problem.signals is.places)) =
        omega (
          arith,
          is.in_part,
          length-pick problem.signals is.places is.all_in,
          length-map (signals_at problem.signals is.places) (λ (s : Signal). s.bits),
        ) in
        omega (
          arith,
          is.starts,
          is.bits,
          sum_by_more_le (λ x. x) (widths_of (signals_at problem.signals is.places)) is.number 0 within,
        )

    -- the bits of an item of the class are those of its members
    item_bits : (k : ℕ) → k < length (class_at problem labels order place)
        → sum (widths_of (signals_at problem.signals
        (get_or (class_at problem labels order place) k none_item).members))
        ≡ (get_or (class_at problem labels order place) k none_item).bits
    item_bits k lt =
        let from = from_list (get_or order place 0) labels problem.items k lt in
        sum-map (λ (s : Signal). s.bits)
        (signals_at problem.signals (get_or (class_at problem labels order place) k none_item).members)
        ∙ ap (λ (y : Item). sum_by (λ (s : Signal). s.bits) (signals_at problem.signals y.members))
        (from.same none_item)
        ∙ sym (bits_of_members problem.signals problem.items sorted from.number none_item from.within)
        ∙ ap (λ (y : Item). y.bits) (sym (from.same none_item))

    -- and those of all items are those of all members
    class_bits : sum (widths_of
        (signals_at problem.signals (flat_map (λ y. y.members) (class_at problem labels order place))))
        ≡ sum_by (λ item. item.bits) (class_at problem labels order place)
    class_bits =
        sum-map (λ (s : Signal). s.bits)
        (signals_at problem.signals
        (flat_map (λ (y : Item). y.members) (class_at problem labels order place)))
        ∙ ap (sum_by (λ (s : Signal). s.bits))
        (signals_at-items problem.signals (class_at problem labels order place))
        ∙ sum_by-flat_map (λ (s : Signal). s.bits) (λ (y : Item). signals_at problem.signals y.members)
        (class_at problem labels order place)
        ∙ sum_by-same (λ y. sum_by (λ (s : Signal). s.bits) (signals_at problem.signals y.members))
        (λ (y : Item). y.bits) (class_at problem labels order place)
        (λ k d lt. sym (All-class_of
        (λ (y : Item). y.bits ≡ sum_by (λ (s : Signal). s.bits) (signals_at problem.signals y.members))
        (get_or order place 0) labels problem.items
        (bits_of_members problem.signals problem.items sorted) k d lt))

    -- an I-PDU's class is of I-PDUs, and a free item's of free items
    class_kind : (b : Bool) (k : ℕ) → k < length (class_at problem labels order place)
        → is_pdu (get_or (class_at problem labels order place) k none_item) ≡ b
        → All (λ item. is_pdu item ≡ b) (class_at problem labels order place)
    class_kind b k lt is j d below =
        ap is_pdu (get_or_default (class_at problem labels order place) j d none_item below)
        ∙ pairs_agree is_pdu (class_at problem labels order place)
        (legal.classes (get_or order place 0)).one_kind j k none_item below lt
        ∙ is

    -- a free row's part is its frame
    pub free_part : (row : MatrixRow) (is : IsSeen problem labels order place row) → row.pdu ≡ None
        → sum (widths_of (signals_at problem.signals is.places))
        ≤ 8 * bytes_of_items (class_at problem labels order place)
    free_part row is none =
        let free = class_kind false is.item is.within (ap is_some (sym is.pdu ∙ none)) in
        omega (
          arith,
          ap (λ ms. sum (widths_of (signals_at problem.signals ms)))
              (is.whole (free_header (class_at problem labels order place) free)),
          class_bits,
          free_bytes (class_at problem labels order place) free,
          div_ceil_times (sum_by (λ (y : Item). y.bits) (class_at problem labels order place)) 8
              (omega arith),
        )

    -- an I-PDU's part has the members of its item
    pdu_places : (row : MatrixRow) (is : IsSeen problem labels order place row) (pdu : ℕ) → row.pdu ≡ Some pdu
        → is.places ≡ (get_or (class_at problem labels order place) is.item none_item).members
    pdu_places row is pdu some = by (header_cases (header_of_items (class_at problem labels order place)))
      where
        all : All (λ item. is_pdu item ≡ true) (class_at problem labels order place)
        all = class_kind true is.item is.within (ap is_some (sym is.pdu ∙ some))

        by : (header_of_items (class_at problem labels order place) ≡ NoHeader)
            ⊎ (header_of_items (class_at problem labels order place) ≡ NoHeader → ⊥)
            → is.places ≡ (get_or (class_at problem labels order place) is.item none_item).members
        by (inl none) = is.whole none
            ∙ single_members (class_at problem labels order place) is.item is.within all none
        by (inr differ) = is.own differ

    -- and the bits of the I-PDU's signals
    pub pdu_bits : (row : MatrixRow) (is : IsSeen problem labels order place row) (pdu : ℕ)
        → row.pdu ≡ Some pdu → sum (widths_of (signals_at problem.signals is.places))
        ≡ sum_by (λ signal. signal.bits) (filter (λ signal. same_pdu (Some pdu) signal.pdu) problem.signals)
    pdu_bits row is pdu some =
        let from = from_list (get_or order place 0) labels problem.items is.item is.within in
        let of_pdu : (get_or problem.items from.number none_item).pdu ≡ Some pdu =
        ap (λ (y : Item). y.pdu) (sym (from.same none_item)) ∙ sym is.pdu ∙ some in
        ap (λ ms. sum (widths_of (signals_at problem.signals ms))) (pdu_places row is pdu some)
        ∙ item_bits is.item is.within
        ∙ ap (λ (y : Item). y.bits) (from.same none_item)
        ∙ bits_of_pdu problem.signals problem.items sorted from.number none_item from.within pdu of_pdu

    -- where there is a header, a row ends within the bytes of its item
    pub own_ends : (row : MatrixRow) (is : IsSeen problem labels order place row)
        → (header_of_items (class_at problem labels order place) ≡ NoHeader → ⊥)
        → row.start + row.bits ≤ 8 * (row.at + bytes_of_item
        (get_or (class_at problem labels order place) is.item none_item))
    own_ends row is differ =
        omega (
          arith,
          row_ends row is,
          ap (λ ms. sum (widths_of (signals_at problem.signals ms))) (is.own differ),
          item_bits is.item is.within,
          div_ceil_times (get_or (class_at problem labels order place) is.item none_item).bits 8
              (omega arith),
        )

    -- a row ends within the bytes of its class
    pub ends_in_class : (row : MatrixRow) (is : IsSeen problem labels order place row)
        → row.start + row.bits ≤ 8 * bytes_of_items (class_at problem labels order place)
    ends_in_class row is = by row.pdu refl
      where
        by : (o : Option ℕ) → row.pdu ≡ o
            → row.start + row.bits ≤ 8 * bytes_of_items (class_at problem labels order place)
        by None none =
            let free = class_kind false is.item is.within (ap is_some (sym is.pdu ∙ none)) in
            let first : row.at ≡ 0 = is.begins
            ∙ ap (λ h. at_after h (take is.item (class_at problem labels order place)))
            (free_header (class_at problem labels order place) free) in
            omega (arith, row_ends row is, free_part row is none, first)
        by (Some pdu) some =
            omega (
              arith,
              row_ends row is,
              ap (λ ms. sum (widths_of (signals_at problem.signals ms))) (pdu_places row is pdu some),
              item_bits is.item is.within,
              div_ceil_times (get_or (class_at problem labels order place) is.item none_item).bits 8
                  (omega arith),
              is.begins,
              part_ends (class_at problem labels order place) is.item
                  is.within (class_kind true is.item is.within (ap is_some (sym is.pdu ∙ some))),
            )

    -- a frame has a size
    pub class_sized : fd_size_of (bytes_of_items (class_at problem labels order place))
        ≡ Some (unwrap_or (size_of_items (class_at problem labels order place)) 0)
    class_sized =
        let found =
        fd_size_of-some (bytes_of_items (class_at problem labels order place))
        (legal.classes (get_or order place 0)).small in
        found.1 ∙ ap (λ n. Some n) (sym (ap (λ o. unwrap_or o 0) found.1))
