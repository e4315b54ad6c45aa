-- The frames of a placed matrix as those of a bus: no release is late where the lines show that each frame
-- passes.
use Rattle.std.proofs.Common.{◌≡◌, ℕ, ◌<◌, List, [], ◌∷◌, length, get_or, map, nat_eq, All, Option, None, Some, refl, sym, ap, ◌∙◌, subst, arith, zero-add, rules}
use Rattle.std.specs.Prelude.{unwrap_or, slice_index, AllPairs}
use Rattle.std.specs.List.{list_any, range_with_len}
use Rattle.std.proofs.lemmas.List.{length-map, get_or-map}
use Rattle.std.proofs.lemmas.List.Elements.{All-filter, All-head, All-map, All-tail}
use Rattle.std.proofs.lemmas.List.FromFn.{get_or-map-range_with_len, get_or-range_with_len, length-range_with_len}
use Rattle.std.proofs.lemmas.List.Kept.{AllPairs-filter}
use Rattle.pack_model.specs.declared.item.Item.{Item}
use Rattle.pack_model.specs.Problem.{Parts, IsProblem, IsSorted}
use Rattle.pack_model.proofs.ItemFacts.{items_of_signals}
use Rattle.pack_model.proofs.OrderSteps.{All-of_map}
use Rattle.fd_length.specs.Size.{IsSize}
use Rattle.fd_length.proofs.Sizes.{IsFdSize-from_value}
use Rattle.busy_period.specs.declared.timed.Timed.{Timed}
use Rattle.busy_period.specs.Timed.{IsInRange, frame_at, none_frame}
use Rattle.response_test.specs.Frame.{IsShown}
use Rattle.response_test.proofs.Renumbered.{shown_renumbered}
use Rattle.class_frame.specs.Classes.{frames_of_classes}
use Rattle.class_frame.specs.Frame.{bytes_of_items, size_of_items, timed_of_items}
use Rattle.class_frame.specs.Grouping.{IsGrouping, IsOrder, class_of, classes_of}
use Rattle.class_frame.proofs.GroupingLaws.{front_of, length-order}
use Rattle.class_frame.proofs.Ranges.{frame_in_range}
use Rattle.class_frame.proofs.ClassFrames.{few_classes}
use Rattle.class_frame.proofs.Used.{class_has_signal}
use Rattle.matrix_rows.specs.declared.matrix.MatrixRow.{MatrixRow}
use Rattle.matrix_text.specs.Frames.{frame_identifiers, grouping_of, identifiers, label_in, order_of}
use Rattle.cert_text.specs.declared.parts.FrameLine.{FrameLine}
use Rattle.frame_ticks.specs.Worst.{worst_ticks_of}
use Rattle.bus_run.specs.declared.run.BusFrame.{BusFrame}
use Rattle.bus_run.specs.Frames.{AreBusFrames, HaveWorstTicks, bus_frame_at, none_bus_frame, times_of}
use Rattle.bus_run.specs.Late.{IsByNumber, IsShownAt}
use Rattle.bus_run.proofs.BreakLaws.{none_late}
use Rattle.bandwidth_bound.specs.Timing.{TimingStands}
use Rattle.bandwidth_bound.specs.Bus.{NeverLate, ascending_identifiers, bus_frame_of, bus_frames_of, items_of_frame}

-- numbers in a row ascend
range_ascends : (n : ℕ) → AllPairs (λ earlier later. earlier < later) (range_with_len 0 n)
range_ascends n i j d before inside =
    let long : length (range_with_len 0 n) ≡ n = length-range_with_len 0 n in
    omega (
      arith,
      get_or-range_with_len 0 n i d (omega (arith, long)),
      get_or-range_with_len 0 n j d (omega (arith, long)),
    )

-- and are below their number
range_below : (n : ℕ) → All (λ number. number < n) (range_with_len 0 n)
range_below n k d inside =
    let long : length (range_with_len 0 n) ≡ n = length-range_with_len 0 n in
    omega (arith, get_or-range_with_len 0 n k d (omega (arith, long)))

-- the data length of items is a listed one
size_listed : (items : List Item) → IsSize (unwrap_or (size_of_items items) 0)
size_listed items =
    by (size_of_items items) (λ size is. (IsFdSize-from_value (bytes_of_items items) size is).listed)
  where
    by : (o : Option ℕ) → ((size : ℕ) → o ≡ Some size → IsSize size) → IsSize (unwrap_or o 0)
    by None each = search rules
    by (Some size) each = each size refl

-- frames with the times of their labels, in the order of these
times_by_label : (time_of : ℕ → Timed) (label_of : ℕ → ℕ) (n : ℕ) (frame_of : ℕ → BusFrame)
    → ((id : ℕ) → (frame_of id).timed ≡ time_of (label_of id)) → (ids : List ℕ)
    → All (λ label. label < n) (map label_of ids)
    → times_of (map frame_of ids) ≡ map (frame_at (map time_of (range_with_len 0 n))) (map label_of ids)
times_by_label time_of label_of n frame_of same [] low = refl
times_by_label time_of label_of n frame_of same (id ∷ ids) low =
    let all : List Timed = map time_of (range_with_len 0 n) in
    let here : (frame_of id).timed ≡ frame_at all (label_of id) =
    same id ∙ sym (get_or-map-range_with_len time_of 0 n (label_of id) (label_of id) none_frame
    (All-head (λ label. label < n) (label_of id) (map label_of ids) low) (zero-add (label_of id))) in
    ap (λ (time : Timed). time ∷ times_of (map frame_of ids)) here
    ∙ ap (λ (times : List Timed). frame_at all (label_of id) ∷ times)
    (times_by_label time_of label_of n frame_of same ids
    (All-tail (λ label. label < n) (label_of id) (map label_of ids) low))

module _ (problem : Parts) (rows : List MatrixRow) (stands : IsProblem problem)
    (sorted : IsSorted problem.signals problem.items)
    (grouping : IsGrouping problem.items (grouping_of problem rows))
    (named : IsOrder (grouping_of problem rows) (order_of problem rows)) where
  -- the frame of an identifier
  abbrev frame_of : ℕ → BusFrame
  frame_of id = bus_frame_of problem id (items_of_frame problem rows id)

  -- the classes as frames
  abbrev classes : List Timed
  classes = frames_of_classes problem problem.items (grouping_of problem rows)

  -- the frames by number
  abbrev numbers : List ℕ
  numbers = range_with_len 0 (length (bus_frames_of problem rows))

  -- the times of the frames are those of the classes in their order
  times_are : times_of (bus_frames_of problem rows) ≡ map (frame_at classes) (order_of problem rows)
  times_are =
      times_by_label (λ label. timed_of_items problem
      (class_of label (grouping_of problem rows) problem.items))
      (label_in (frame_identifiers problem rows)) (classes_of (grouping_of problem rows)) frame_of
      (λ id. refl) (ascending_identifiers problem rows) named.only

  -- there are as many as classes
  count : length (bus_frames_of problem rows) ≡ length (order_of problem rows)
  count = length-map (ascending_identifiers problem rows) frame_of
      ∙ sym (length-map (ascending_identifiers problem rows) (label_in (frame_identifiers problem rows)))

  -- their identifiers ascend, and are those of base frames
  ids_ascend : AllPairs (λ earlier later. earlier < later) (ascending_identifiers problem rows)
  unfolding identifiers
  ids_ascend =
      AllPairs-filter (λ earlier later. earlier < later)
      (λ id. list_any (nat_eq id) (frame_identifiers problem rows)) (range_with_len 0 2048)
      (range_ascends 2048)

  ids_low : All (λ id. id < 2048) (ascending_identifiers problem rows)
  unfolding identifiers
  ids_low =
      All-filter (λ id. list_any (nat_eq id) (frame_identifiers problem rows)) (λ id. id < 2048)
      (range_with_len 0 2048) (range_below 2048)

  -- the identifier of the frame at a number
  id_at : (number : ℕ) → number < length (bus_frames_of problem rows)
      → (bus_frame_at (bus_frames_of problem rows) number).id
      ≡ get_or (ascending_identifiers problem rows) number 0
  id_at number inside =
      ap (λ (frame : BusFrame). frame.id)
      (get_or-map frame_of (ascending_identifiers problem rows) number 0 none_bus_frame
      (omega (arith, length-map (ascending_identifiers problem rows) frame_of)))

  -- they are the frames of a bus
  on_bus : AreBusFrames (bus_frames_of problem rows)
  on_bus = record {
    few =
        omega (
          arith,
          count,
          length-order (grouping_of problem rows) (order_of problem rows) named,
          few_classes problem (grouping_of problem rows) stands
              (front_of problem.items (grouping_of problem rows) grouping),
        );
    ascending = λ earlier later before inside.
        let long : length (bus_frames_of problem rows) ≡ length (ascending_identifiers problem rows) =
        length-map (ascending_identifiers problem rows) frame_of in
        omega (
          arith,
          id_at earlier (omega arith),
          id_at later inside,
          ids_ascend earlier later 0 before (omega (arith, long)),
        );
    id_high =
        All-map (λ (frame : BusFrame). frame.id < 2048) frame_of (ascending_identifiers problem rows) ids_low;
    listed =
        All-map (λ (frame : BusFrame). IsSize frame.size) frame_of (ascending_identifiers problem rows)
        (λ k d inside. size_listed
        (items_of_frame problem rows (get_or (ascending_identifiers problem rows) k d)));
    in_range = All-map IsInRange (λ (frame : BusFrame). frame.timed) (bus_frames_of problem rows)
        (All-map (λ (frame : BusFrame). IsInRange frame.timed) frame_of (ascending_identifiers problem rows)
        (λ k d inside.
        let id : ℕ = get_or (ascending_identifiers problem rows) k d in
        frame_in_range problem (items_of_frame problem rows id) stands
        (class_has_signal problem problem.items (grouping_of problem rows)
        (label_in (frame_identifiers problem rows) id)
        (items_of_signals problem.signals problem.items sorted) grouping
        (All-of_map (λ label. label < classes_of (grouping_of problem rows))
        (label_in (frame_identifiers problem rows))
        (ascending_identifiers problem rows) named.only k d inside))));
  }

  -- each is as long as the longest of its size
  worst : HaveWorstTicks problem.network (bus_frames_of problem rows)
  worst =
      All-map (λ (frame : BusFrame). frame.timed.ticks ≡ worst_ticks_of problem.network frame.size) frame_of
      (ascending_identifiers problem rows) (λ k d inside. refl)

  -- each number is itself
  each_number : (number : ℕ) → number < length numbers → slice_index numbers number ≡ number
  each_number number inside =
      get_or-range_with_len 0 (length (bus_frames_of problem rows)) number 0
      (omega (arith, length-range_with_len 0 (length (bus_frames_of problem rows)))) ∙ zero-add number

  -- where the lines show the classes, each frame is shown by its number
  shown_at : (lines : List FrameLine)
      → TimingStands problem rows lines
      → (place : ℕ) → place < length (bus_frames_of problem rows)
      → IsShownAt problem.network (bus_frames_of problem rows) numbers place
  shown_at lines shown place inside =
      let line : FrameLine = get_or lines place (record { busy = 0; queue = [] }) in
      let there : place < length (order_of problem rows) = omega (arith, count) in
      let at_line : IsShown classes
      (order_of problem rows) place problem.network.nominal_ticks line.busy line.queue =
      shown.each place (record { busy = 0; queue = [] }) (omega (arith, shown.count)) in
      let same : length numbers ≡ length (order_of problem rows) =
      length-range_with_len 0 (length (bus_frames_of problem rows)) ∙ count in record {
        busy = line.busy;
        starts = line.queue;
        shown =
            subst (λ times. IsShown times numbers place problem.network.nominal_ticks line.busy line.queue)
            (sym times_are)
            (shown_renumbered classes
            (order_of problem rows) numbers same each_number place problem.network.nominal_ticks line.busy
            line.queue there at_line);
      }

  -- and no release is late
  pub shown_never_late : (lines : List FrameLine)
      → TimingStands problem rows lines → NeverLate problem rows
  shown_never_late lines shown run runs release late =
      let by_number : (place : ℕ) → place < length (bus_frames_of problem rows)
      → IsByNumber (length (bus_frames_of problem rows)) numbers place = λ place inside. record {
        all = length-range_with_len 0 (length (bus_frames_of problem rows));
        each = each_number;
        inside = omega (arith, length-range_with_len 0 (length (bus_frames_of problem rows)));
      } in
      none_late problem.network (bus_frames_of problem rows) run numbers stands.network on_bus worst
      (λ place inside. (by_number place inside, shown_at lines shown place inside)) runs release late
