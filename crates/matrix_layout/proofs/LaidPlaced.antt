-- A matrix that was laid out is placed.
use Rattle.std.proofs.Common.{◌≡◌, ◌≢◌, ℕ, ◌+◌, ◌*◌, ◌<◌, ◌≤◌, ◌⊎◌, true, false, List, [], length, get_or, take, filter, sum_by, count_by, nat_eq, nat_lt, is_some, All, Any, Option, Some, None, inl, inr, refl, sym, ap, subst, ◌∙◌, arith}
use Rattle.std.specs.Prelude.{slice_index_or}
use Rattle.std.specs.List.{position_or_len}
use Rattle.std.specs.Str.{bytes_eq}
use Rattle.std.specs.Cmp.Lexicographic.{nat_list_eq_equiv}
use Rattle.std.proofs.lemmas.Bool.{cases_lt, lt-ltb}
use Rattle.std.proofs.lemmas.Grind.{div_ceil_times}
use Rattle.std.proofs.lemmas.List.{length-map}
use Rattle.pack_model.specs.declared.signal.Signal.{Signal}
use Rattle.pack_model.specs.declared.item.Item.{Item}
use Rattle.pack_model.specs.Signal.{same_pdu}
use Rattle.pack_model.specs.Problem.{Parts, IsProblem, IsSorted}
use Rattle.class_frame.specs.Grouping.{IsOrder, class_of}
use Rattle.pack_model.proofs.ItemFacts.{pdus_differ}
use Rattle.container_pdu.specs.declared.header.Header.TheVariants.{NoHeader}
use Rattle.container_pdu.specs.Bytes.{header_bytes}
use Rattle.class_frame.specs.Legal.{IsLegal}
use Rattle.class_frame.specs.Frame.{header_of_items, is_pdu, bytes_of_item, bytes_of_items}
use Rattle.fd_length.specs.Size.{fd_size_of}
use Rattle.frame_ticks.specs.Worst.{worst_ticks_of}
use Rattle.ipdu_layout.specs.Layout.{IsApart, start_of}
use Rattle.ipdu_layout.proofs.Places.{IsApart-from_order}
use Rattle.ipdu_layout.proofs.StartLaws.{start_of-after}
use Rattle.matrix_rows.specs.declared.matrix.MatrixRow.{MatrixRow}
use Rattle.placed_matrix.specs.Items.{is_named, at_of_item, items_in_frame}
use Rattle.matrix_layout.specs.LaidOut.{signals_at, widths_of, rows_of}
use Rattle.placed_matrix.specs.Placed.{Placed, OneRow, RowOf, SameFrame, InARow, FrameFits, InsidePart, bytes_before, part_bytes, place_of}
use Rattle.placed_matrix.proofs.Counts.{count_two}
use Rattle.placed_matrix.proofs.RowsFound.{name_at, name_is}
use Rattle.matrix_layout.proofs.ClassItems.{from_list}
use Rattle.matrix_layout.proofs.ClassBytes.{header_cases, at_headed, at_rises, filter-take, pairs_agree}
use Rattle.matrix_layout.proofs.PartItems.{none_item, bytes_with, at_after}
use Rattle.matrix_layout.proofs.Picked.{length-pick}
use Rattle.matrix_layout.proofs.LaidRows.{class_at, IsLaid, all_laid, one_each, in_list, row_name}
use Rattle.matrix_layout.proofs.LaidItems.{place_is, at_of_laid, items_in_frame_laid}
use Rattle.matrix_layout.proofs.LaidSeen.{IsSeen, seen, row_ends, free_part, pdu_bits, own_ends, class_sized}

-- of numbers the first is not below
not_below : (a b : ℕ) → b ≤ a → nat_lt a b ≡ false
not_below a b le = grind (arith, le)

module _ (problem : Parts) (labels order : List ℕ) (stands : IsProblem problem)
    (sorted : IsSorted problem.signals problem.items) (legal : IsLegal problem.items labels)
    (named : IsOrder labels order) where
  -- a row is of a signal of the list
  of_a_signal : (row : MatrixRow) → IsLaid problem labels order row
      → Any (λ signal. RowOf signal row) problem.signals
  of_a_signal row laid = (
    get_or laid.part.places laid.number 0,
    laid.signal,
    in_list problem labels order stands sorted legal named row laid,
    sym laid.at,
    record {
      name = ap (λ (r : MatrixRow). r.signal) laid.is;
      sender = ap (λ (r : MatrixRow). r.sender) laid.is;
      pdu = ap (λ (r : MatrixRow). r.pdu) laid.is;
      bits = ap (λ (r : MatrixRow). r.bits) laid.is;
    },
  )

  one_row : OneRow problem.signals (rows_of problem labels order)
  one_row = record {
    each =
        λ k d lt. ap (λ name. count_by (is_named name) (rows_of problem labels order))
        (sym (name_is problem.signals k d lt)) ∙ one_each problem labels order stands sorted legal named k lt;
    no_other =
        λ k d lt. of_a_signal (get_or (rows_of problem labels order) k d)
        (all_laid problem labels order sorted k d lt);
  }

  -- where a row is seen
  seen_at : (k : ℕ) (d : MatrixRow) → k < length (rows_of problem labels order)
      → (place : ℕ) × (place < length order)
      × IsSeen problem labels order place (get_or (rows_of problem labels order) k d)
  seen_at k d lt =
      seen problem labels order stands sorted legal named (get_or (rows_of problem labels order) k d)
      (all_laid problem labels order sorted k d lt)

  -- rows of one frame are of one class
  record AreTogether (row other : MatrixRow) : Type 0 where
    pub place : ℕ
    pub in_order : place < length order
    pub first : IsSeen problem labels order place row
    pub second : IsSeen problem labels order place other

  together : (i j : ℕ) (d : MatrixRow) → i < j → j < length (rows_of problem labels order)
      → (get_or (rows_of problem labels order) i d).id ≡ (get_or (rows_of problem labels order) j d).id
      → AreTogether (get_or (rows_of problem labels order) i d) (get_or (rows_of problem labels order) j d)
  together i j d before lt same =
      let (p, in_order, is) = seen_at i d (omega arith) in
      let (q, also_in, also) = seen_at j d lt in
      let place : q ≡ p = omega (arith, same, is.id, also.id) in
      record {
        place = p;
        in_order = in_order;
        first = is;
        second =
            subst (λ n. IsSeen problem labels order n (get_or (rows_of problem labels order) j d)) place also;
      }

  same_frame : (row other : MatrixRow) → AreTogether row other → SameFrame row other
  same_frame row other both =
      let is = both.first in
      let also = both.second in
      record {
        sender = is.sender
            ∙ ap (λ n. slice_index_or problem.senders n [])
            (pairs_agree (λ (y : Item). y.sender) (class_at problem labels order both.place)
            (legal.classes (get_or order both.place 0)).one_sender is.item also.item none_item is.within
            also.within)
            ∙ sym also.sender;
        size = is.size ∙ sym also.size;
        ticks = is.ticks ∙ sym also.ticks;
        header = is.header ∙ sym also.header;
      }

  same_kind : (row other : MatrixRow) → AreTogether row other → is_some row.pdu ≡ is_some other.pdu
  same_kind row other both =
      ap is_some both.first.pdu
      ∙ pairs_agree is_pdu (class_at problem labels order both.place)
      (legal.classes (get_or order both.place 0)).one_kind both.first.item both.second.item none_item
      both.first.within both.second.within
      ∙ ap is_some (sym both.second.pdu)

  -- rows of one I-PDU are in one part
  same_part : (row other : MatrixRow) (p q : ℕ) → p < length order → q < length order
      → IsSeen problem labels order p row → IsSeen problem labels order q other → (o : Option ℕ) → row.pdu ≡ o
      → is_some o ≡ true → row.pdu ≡ other.pdu → (row.id ≡ other.id) × (row.at ≡ other.at)
  same_part row other p q lt lt2 is also None none some same = absurd (let wrong : false ≡ true = some in cc)
  same_part row other p q lt lt2 is also (Some pdu) has some same =
      let from = from_list (get_or order p 0) labels problem.items is.item is.within in
      let from2 = from_list (get_or order q 0) labels problem.items also.item also.within in
      let number : from.number ≡ from2.number =
      pdus_differ problem.signals problem.items sorted from.number from2.number pdu none_item from.within
      from2.within
      (ap (λ (y : Item). y.pdu) (sym (from.same none_item)) ∙ sym is.pdu ∙ has)
      (ap (λ (y : Item). y.pdu) (sym (from2.same none_item)) ∙ sym also.pdu ∙ sym same ∙ has) in
      let label : get_or order p 0 ≡ get_or order q 0 = sym from.labelled ∙ ap (λ n. get_or labels n 0) number
      ∙ from2.labelled in
      let place : p ≡ q = sym (place_is labels order named p lt)
      ∙ ap (λ l. position_or_len (nat_eq l) order) label ∙ place_is labels order named q lt2 in (
        is.id ∙ ap (λ n. problem.network.first_id + n) place ∙ sym also.id,
        is.begins
            ∙ ap (at_after (header_of_items (class_at problem labels order p))) from.before
            ∙ ap (λ l. at_after (header_of_items (class_of l labels problem.items))
            (class_of l (take from.number labels) (take from.number problem.items))) label
            ∙ ap (λ n. at_after (header_of_items (class_at problem labels order q))
            (class_of (get_or order q 0) (take n labels) (take n problem.items))) number
            ∙ ap (at_after (header_of_items (class_at problem labels order q))) (sym from2.before)
            ∙ sym also.begins,
      )

  -- the items of a row's frame are those of its class
  frame_items : (place : ℕ) → place < length order → (row : MatrixRow) → IsSeen problem labels order place row
      → items_in_frame problem (rows_of problem labels order) row.id ≡ class_at problem labels order place
  frame_items place lt row is = ap (items_in_frame problem (rows_of problem labels order)) is.id
      ∙ items_in_frame_laid problem labels order stands sorted legal named place lt

  -- the part of an item of a class begins after those of the items before it
  at_in_class : (place : ℕ) (k : ℕ) (d : Item) → k < length (class_at problem labels order place)
      → at_of_item problem (rows_of problem labels order) (get_or (class_at problem labels order place) k d)
      ≡ at_after (header_of_items (class_at problem labels order place))
      (take k (class_at problem labels order place))
  at_in_class place k d lt =
      let from = from_list (get_or order place 0) labels problem.items k lt in
      ap (λ (y : Item). at_of_item problem (rows_of problem labels order) y) (from.same d)
      ∙ at_of_laid problem labels order stands sorted legal named from.number d from.within
      ∙ ap (λ l. at_after (header_of_items (class_of l labels problem.items))
      (class_of l (take from.number labels) (take from.number problem.items))) from.labelled
      ∙ ap (at_after (header_of_items (class_at problem labels order place))) (sym from.before)

  module _ (place : ℕ) (in_order : place < length order) (row : MatrixRow)
      (is : IsSeen problem labels order place row) where
    header_kind : row.header ≡ header_of_items (items_in_frame problem (rows_of problem labels order) row.id)
    header_kind = is.header ∙ ap header_of_items (sym (frame_items place in_order row is))

    -- the items whose parts begin before a row's part are those before its item
    before_row : (header_of_items (class_at problem labels order place) ≡ NoHeader → ⊥)
        → filter (λ item. nat_lt (at_of_item problem (rows_of problem labels order) item) row.at)
        (class_at problem labels order place) ≡ take is.item (class_at problem labels order place)
    before_row differ =
        filter-take (λ item. nat_lt (at_of_item problem (rows_of problem labels order) item) row.at)
        (class_at problem labels order place) is.item
        (λ j d lt within. lt-ltb (at_of_item problem (rows_of problem labels order)
        (get_or (class_at problem labels order place) j d)) row.at
        (omega (
          arith,
          at_in_class place j d within,
          is.begins,
          at_rises (header_of_items (class_at problem labels order place))
              (class_at problem labels order place) j is.item differ lt (omega (arith, is.within)),
        )))
        (λ j d le within. not_below
        (at_of_item problem (rows_of problem labels order)
        (get_or (class_at problem labels order place) j d)) row.at
        (later j d within (cases_lt is.item j) le))
      where
        later : (j : ℕ) (d : Item) → j < length (class_at problem labels order place)
            → (is.item < j) ⊎ (j ≤ is.item) → is.item ≤ j
            → row.at ≤ at_of_item problem (rows_of problem labels order)
            (get_or (class_at problem labels order place) j d)
        later j d within (inl lt) le =
            omega (
              arith,
              at_in_class place j d within,
              is.begins,
              at_rises (header_of_items (class_at problem labels order place))
                  (class_at problem labels order place) is.item j differ lt (omega (arith, within)),
            )
        later j d within (inr ge) le =
            let same : is.item ≡ j = omega arith in
            omega (
              arith,
              at_in_class place j d within,
              is.begins,
              ap (λ k. at_after (header_of_items (class_at problem labels order place))
                  (take k (class_at problem labels order place))) same,
            )

    in_a_row : InARow problem (rows_of problem labels order) row
    in_a_row = record {
      alone = λ none. is.begins
          ∙ ap (λ h. at_after h (take is.item (class_at problem labels order place))) (sym is.header ∙ none);
      among = λ differ.
          let headed : header_of_items (class_at problem labels order place) ≡ NoHeader → ⊥ =
          λ e. differ (is.header ∙ e) in
          let bytes : bytes_before problem (rows_of problem labels order) row.id row.at
          ≡ bytes_with (header_of_items (class_at problem labels order place))
          (take is.item (class_at problem labels order place)) =
          ap (λ ys. sum_by (λ item. header_bytes (header_of_items ys) + bytes_of_item item)
          (filter (λ item. nat_lt (at_of_item problem (rows_of problem labels order) item) row.at) ys))
          (frame_items place in_order row is)
          ∙ ap (sum_by (λ item. header_bytes
          (header_of_items (class_at problem labels order place)) + bytes_of_item item))
          (before_row headed) in
          is.begins
          ∙ (at_headed (header_of_items (class_at problem labels order place))
          (take is.item (class_at problem labels order place)) headed).0
          ∙ ap (λ h. header_bytes h + bytes_with (header_of_items (class_at problem labels order place))
          (take is.item (class_at problem labels order place))) (sym is.header)
          ∙ ap (λ n. header_bytes row.header + n) (sym bytes);
    }

    frame_fits : FrameFits problem (rows_of problem labels order) row
    frame_fits = record {
      size = ap (λ ys. fd_size_of (bytes_of_items ys)) (frame_items place in_order row is)
          ∙ class_sized problem labels order stands sorted legal named place ∙ ap (λ n. Some n) (sym is.size);
      ticks = is.ticks ∙ ap (worst_ticks_of problem.network) (sym is.size);
    }

    inside_part : InsidePart problem (rows_of problem labels order) row
    inside_part = record { from = omega (arith, is.starts); below = by row.pdu refl }
      where
        by : (o : Option ℕ) → row.pdu ≡ o
            → row.start + row.bits ≤ 8 * (row.at + part_bytes problem (rows_of problem labels order) row.id o)
        by None none =
            omega (
              arith,
              row_ends problem labels order stands sorted legal named place row is,
              free_part problem labels order stands sorted legal named place row is none,
              ap bytes_of_items (frame_items place in_order row is),
            )
        by (Some pdu) some =
            omega (
              arith,
              row_ends problem labels order stands sorted legal named place row is,
              pdu_bits problem labels order stands sorted legal named place row is pdu some,
              div_ceil_times (sum_by (λ (s : Signal). s.bits)
                  (filter (λ (s : Signal). same_pdu (Some pdu) s.pdu) problem.signals)) 8 (omega arith),
            )

  module _ (row other : MatrixRow) (both : AreTogether row other) where
    begin_apart : row.header ≢ NoHeader → row.at ≡ other.at → row.pdu ≡ other.pdu
    begin_apart differ same =
        by (cases_lt both.first.item both.second.item) (cases_lt both.second.item both.first.item)
      where
        headed : header_of_items (class_at problem labels order both.place) ≡ NoHeader → ⊥
        headed e = differ (both.first.header ∙ e)

        by : (both.first.item < both.second.item) ⊎ (both.second.item ≤ both.first.item)
            → (both.second.item < both.first.item) ⊎ (both.first.item ≤ both.second.item)
            → row.pdu ≡ other.pdu
        by (inl lt) _ =
            absurd (omega (
              arith,
              same,
              both.first.begins,
              both.second.begins,
              at_rises (header_of_items (class_at problem labels order both.place))
                  (class_at problem labels order both.place) both.first.item both.second.item headed lt
                  (omega (arith, both.second.within)),
            ))
        by (inr ge) (inl gt) =
            absurd (omega (
              arith,
              same,
              both.first.begins,
              both.second.begins,
              at_rises (header_of_items (class_at problem labels order both.place))
                  (class_at problem labels order both.place) both.second.item both.first.item headed gt
                  (omega (arith, both.first.within)),
            ))
        by (inr ge) (inr le) =
            let one : both.first.item ≡ both.second.item = omega arith in
            both.first.pdu ∙ ap (λ k. (get_or (class_at problem labels order both.place) k none_item).pdu) one
            ∙ sym both.second.pdu

    -- signals of one part are apart
    apart_in_part : both.first.places ≡ both.second.places → row.at ≡ other.at
        → (get_or both.first.places both.first.number 0 ≡ get_or both.second.places both.second.number 0 → ⊥)
        → IsApart (place_of row) (place_of other)
    apart_in_part part at differ =
        by (cases_lt both.first.number both.second.number) (cases_lt both.second.number both.first.number)
      where
        long : (places : List ℕ) → All (λ m. m < length problem.signals) places
            → length (widths_of (signals_at problem.signals places)) ≡ length places
        long places inside =
            omega (
              arith,
              length-pick problem.signals places inside,
              length-map (signals_at problem.signals places) (λ (s : Signal). s.bits),
            )

        by : (both.first.number < both.second.number) ⊎ (both.second.number ≤ both.first.number)
            → (both.second.number < both.first.number) ⊎ (both.first.number ≤ both.second.number)
            → IsApart (place_of row) (place_of other)
        by (inl lt) _ =
            IsApart-from_order (place_of row) (place_of other)
            (omega (
              arith,
              both.first.starts,
              both.first.bits,
              both.second.starts,
              at,
              ap (λ ms. start_of (widths_of (signals_at problem.signals ms)) both.second.number) part,
              start_of-after (widths_of (signals_at problem.signals both.first.places)) both.first.number
                  both.second.number lt
                  (omega (
                    arith,
                    long both.first.places both.first.all_in,
                    both.second.in_part,
                    ap length part,
                  )),
            ))
        by (inr ge) (inl gt) =
            λ position first second. IsApart-from_order (place_of other) (place_of row)
            (omega (
              arith,
              both.first.starts,
              both.second.bits,
              both.second.starts,
              at,
              ap (λ ms. start_of (widths_of (signals_at problem.signals ms)) both.first.number) part,
              start_of-after (widths_of (signals_at problem.signals both.second.places)) both.second.number
                  both.first.number gt
                  (omega (
                    arith,
                    long both.second.places both.second.all_in,
                    both.first.in_part,
                    ap length part,
                  )),
            )) position second first
        by (inr ge) (inr le) =
            let one : both.first.number ≡ both.second.number = omega arith in
            absurd (differ (ap (λ n. get_or both.first.places n 0) one
            ∙ ap (λ ms. get_or ms both.second.number 0) part))

    -- signals of one frame are apart
    apart_in_frame : (get_or both.first.places both.first.number 0
        ≡ get_or both.second.places both.second.number 0 → ⊥) → IsApart (place_of row) (place_of other)
    apart_in_frame differ = by (header_cases (header_of_items (class_at problem labels order both.place)))
      where
        headed : (header_of_items (class_at problem labels order both.place) ≡ NoHeader → ⊥)
            → (both.first.item < both.second.item) ⊎ (both.second.item ≤ both.first.item)
            → (both.second.item < both.first.item) ⊎ (both.first.item ≤ both.second.item)
            → IsApart (place_of row) (place_of other)
        headed some (inl lt) _ =
            IsApart-from_order (place_of row) (place_of other)
            (omega (
              arith,
              own_ends problem labels order stands sorted legal named both.place row both.first some,
              both.first.begins,
              both.second.begins,
              both.second.starts,
              at_rises (header_of_items (class_at problem labels order both.place))
                  (class_at problem labels order both.place) both.first.item both.second.item some lt
                  (omega (arith, both.second.within)),
            ))
        headed some (inr ge) (inl gt) =
            λ position first second. IsApart-from_order (place_of other) (place_of row)
            (omega (
              arith,
              own_ends problem labels order stands sorted legal named both.place other both.second some,
              both.first.begins,
              both.second.begins,
              both.first.starts,
              at_rises (header_of_items (class_at problem labels order both.place))
                  (class_at problem labels order both.place) both.second.item both.first.item some gt
                  (omega (arith, both.first.within)),
            )) position second first
        headed some (inr ge) (inr le) =
            let one : both.first.item ≡ both.second.item = omega arith in
            apart_in_part (both.first.own some
            ∙ ap (λ k. (get_or (class_at problem labels order both.place) k none_item).members) one
            ∙ sym (both.second.own some))
            (both.first.begins ∙ ap (λ k. at_after
            (header_of_items (class_at problem labels order both.place))
            (take k (class_at problem labels order both.place))) one ∙ sym both.second.begins) differ

        by : (header_of_items (class_at problem labels order both.place) ≡ NoHeader)
            ⊎ (header_of_items (class_at problem labels order both.place) ≡ NoHeader → ⊥)
            → IsApart (place_of row) (place_of other)
        by (inl none) =
            apart_in_part (both.first.whole none ∙ sym (both.second.whole none))
            (both.first.begins ∙ ap (λ h. at_after h
            (take both.first.item (class_at problem labels order both.place))) none
            ∙ sym (both.second.begins
            ∙ ap (λ h. at_after h (take both.second.item (class_at problem labels order both.place)))
            none)) differ
        by (inr some) =
            headed some (cases_lt both.first.item both.second.item)
            (cases_lt both.second.item both.first.item)

  -- no two rows are of one signal
  no_two : (i j : ℕ) (d : MatrixRow) → i < j → j < length (rows_of problem labels order)
      → (get_or (rows_of problem labels order) i d).signal
      ≡ (get_or (rows_of problem labels order) j d).signal → ⊥
  no_two i j d before lt same =
      let laid = all_laid problem labels order sorted i d (omega arith) in
      let name =
      row_name problem labels order stands sorted legal named
      (get_or (rows_of problem labels order) i d) laid in
      let here : is_named (name_at problem.signals (get_or laid.part.places laid.number 0))
      (get_or (rows_of problem labels order) i d) ≡ true =
      ap (bytes_eq (name_at problem.signals (get_or laid.part.places laid.number 0))) name
      ∙ nat_list_eq_equiv.refl (name_at problem.signals (get_or laid.part.places laid.number 0)) in
      omega (
        arith,
        one_each problem labels order stands sorted legal named (get_or laid.part.places laid.number 0)
            (in_list problem labels order stands sorted legal named
            (get_or (rows_of problem labels order) i d) laid),
        count_two (is_named (name_at problem.signals (get_or laid.part.places laid.number 0)))
            (rows_of problem labels order) i j d before lt here
            (ap (bytes_eq (name_at problem.signals (get_or laid.part.places laid.number 0))) (sym same)
            ∙ here),
      )

  pub placed_laid : Placed problem (rows_of problem labels order)
  placed_laid = record {
    one_row = one_row;
    frames_agree = λ i j d before lt same. same_frame _ _ (together i j d before lt same);
    one_kind = λ i j d before lt.
        let (p, in_order, is) = seen_at i d (omega arith) in
        let (q, also_in, also) = seen_at j d lt in
        record {
          kind = λ same. same_kind _ _ (together i j d before lt same);
          part =
              λ some same. same_part (get_or (rows_of problem labels order) i d)
              (get_or (rows_of problem labels order) j d) p q in_order also_in is also
              (get_or (rows_of problem labels order) i d).pdu refl some same;
        };
    header_kind = λ k d lt. let (p, in_order, is) = seen_at k d lt in
        header_kind p in_order (get_or (rows_of problem labels order) k d) is;
    parts_in_a_row = λ k d lt. let (p, in_order, is) = seen_at k d lt in
        in_a_row p in_order (get_or (rows_of problem labels order) k d) is;
    parts_begin_apart = λ i j d before lt same. begin_apart _ _ (together i j d before lt same);
    size_and_ticks = λ k d lt. let (p, in_order, is) = seen_at k d lt in
        frame_fits p in_order (get_or (rows_of problem labels order) k d) is;
    inside_the_part = λ k d lt. let (p, in_order, is) = seen_at k d lt in
        inside_part p in_order (get_or (rows_of problem labels order) k d) is;
    no_overlap = λ i j d before lt same.
        let both = together i j d before lt same in
        apart_in_frame (get_or (rows_of problem labels order) i d)
        (get_or (rows_of problem labels order) j d) both
        (λ one. no_two i j d before lt
        (both.first.named ∙ ap (name_at problem.signals) one ∙ sym both.second.named));
  }
