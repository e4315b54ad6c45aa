-- The signals of the parts of a frame, and sums over the rows of a matrix that was laid out.
use Rattle.std.proofs.Common.{◌≡◌, ℕ, ◌+◌, ◌*◌, ◌<◌, List, [], ◌∷◌, ◌++◌, length, get_or, sum_by, All, Option, Some, None, refl, sym, ap, ◌∙◌, arith, add-zero}
use Rattle.std.specs.Prelude.{slice_get}
use Rattle.std.specs.List.{flat_map, filter_map, cons_option, enumerate_from, range_with_len}
use Rattle.std.specs.Option.{option_map_or}
use Rattle.std.proofs.lemmas.List.{ext_get_or}
use Rattle.std.proofs.lemmas.List.Elements.{filter_map-append}
use Rattle.std.proofs.lemmas.List.FromFn.{length-range_with_len, get_or-range_with_len}
use Rattle.std.proofs.lemmas.List.Sorted.{sum_by-IsPermutation}
use Rattle.std.proofs.lemmas.List.Sums.{sum_by-cons}
use Rattle.ipdu_layout.specs.Layout.{start_of}
use Rattle.pack_model.specs.declared.network.Network.{Network}
use Rattle.pack_model.specs.declared.signal.Signal.{Signal}
use Rattle.pack_model.specs.declared.item.Item.{Item}
use Rattle.pack_model.specs.Problem.{Parts, IsSorted}
use Rattle.class_frame.specs.Grouping.{IsOrder, class_of}
use Rattle.class_frame.proofs.GroupingLaws.{sum_by-classes, labels_once}
use Rattle.pack_model.proofs.ItemFacts.{each_once}
use Rattle.container_pdu.specs.declared.header.Header.{Header}
use Rattle.container_pdu.specs.declared.header.Header.TheVariants.{NoHeader, Short, Long}
use Rattle.container_pdu.specs.Bytes.{header_bytes}
use Rattle.class_frame.specs.Legal.{IsLegal}
use Rattle.class_frame.specs.Frame.{header_of_items, bytes_of_item}
use Rattle.matrix_rows.specs.declared.matrix.MatrixRow.{MatrixRow}
use Rattle.matrix_layout.specs.LaidOut.{FrameFigures, FramePart, figures_of, parts_from, parts_with, parts_of_items, signals_at, widths_of, row_with, row_in_part, rows_of_part, rows_of_items, rows_of_class, rows_of}
use Rattle.matrix_layout.proofs.Picked.{length-pick, get_or-pick}
use Rattle.matrix_layout.proofs.SumLaws.{sum_by-map, sum_by-flat_map, sum_by-enumerate}

-- what a map keeps of joined lists
filter_map-flat_map : {X Y Z : Type 0} (h : Y → Option Z) (f : X → List Y) (xs : List X)
    → filter_map h (flat_map f xs) ≡ flat_map (λ x. filter_map h (f x)) xs
filter_map-flat_map h f [] = refl
filter_map-flat_map h f (x ∷ xs) = filter_map-append h (f x) (flat_map f xs)
    ∙ ap (λ zs. filter_map h (f x) ++ zs) (filter_map-flat_map h f xs)

-- the signals of items are those of each, one after another
pub signals_at-items : (signals : List Signal) (items : List Item)
    → signals_at signals (flat_map (λ item. item.members) items)
    ≡ flat_map (λ item. signals_at signals item.members) items
signals_at-items signals items = filter_map-flat_map (slice_get signals) (λ (item : Item). item.members) items

-- the signals at all places are all signals
signals_at-all : (signals : List Signal) → signals_at signals (range_with_len 0 (length signals)) ≡ signals
signals_at-all [] = refl
signals_at-all (s ∷ signals) =
    let inside : All (λ p. p < length (s ∷ signals)) (range_with_len 0 (length (s ∷ signals))) =
    λ k d lt. let low : k < length (s ∷ signals) = simp length-range_with_len at lt in
    omega (arith, get_or-range_with_len 0 (length (s ∷ signals)) k d low) in
    let long : length (signals_at (s ∷ signals) (range_with_len 0 (length (s ∷ signals))))
    ≡ length (s ∷ signals) = length-pick (s ∷ signals) (range_with_len 0 (length (s ∷ signals))) inside
    ∙ length-range_with_len 0 (length (s ∷ signals)) in
    ext_get_or s (signals_at (s ∷ signals) (range_with_len 0 (length (s ∷ signals)))) (s ∷ signals) long
    (λ k lt.
    let low : k < length (s ∷ signals) = omega (arith, lt, long) in
    let within : k < length (range_with_len 0 (length (s ∷ signals))) =
    omega (arith, low, length-range_with_len 0 (length (s ∷ signals))) in
    let here : get_or (range_with_len 0 (length (s ∷ signals))) k 0 ≡ k =
    omega (arith, get_or-range_with_len 0 (length (s ∷ signals)) k 0 low) in
    get_or-pick (s ∷ signals) (range_with_len 0 (length (s ∷ signals))) inside k s within
    ∙ ap (λ m. get_or (s ∷ signals) m s) here)

module _ (v : Signal → ℕ) (signals : List Signal) where
  -- what is added at a place
  abbrev value_at : ℕ → ℕ
  value_at m = option_map_or v (slice_get signals m) 0

  sum_at_places : (places : List ℕ) → sum_by v (signals_at signals places) ≡ sum_by value_at places
  sum_at_places [] = refl
  sum_at_places (p ∷ places) = by (slice_get signals p) ∙ ap (λ n. value_at p + n) (sum_at_places places)
      ∙ sym (sum_by-cons value_at p places)
    where
      by : (o : Option Signal) → sum_by v (cons_option o (signals_at signals places))
          ≡ option_map_or v o 0 + sum_by v (signals_at signals places)
      by None = omega arith
      by (Some s) = sum_by-cons v s (signals_at signals places)

  -- sums over the signals of all items are sums over all signals
  sum_over_items : (items : List Item) → IsSorted signals items
      → sum_by (λ item. sum_by v (signals_at signals item.members)) items ≡ sum_by v signals
  sum_over_items items sorted =
      sym (sum_by-flat_map v (λ (item : Item). signals_at signals item.members) items)
      ∙ ap (sum_by v) (sym (signals_at-items signals items))
      ∙ sum_at_places (flat_map (λ (item : Item). item.members) items)
      ∙ sum_by-IsPermutation value_at (range_with_len 0 (length signals))
      (flat_map (λ item. item.members) items) (each_once signals items sorted)
      ∙ sym (sum_at_places (range_with_len 0 (length signals)))
      ∙ ap (sum_by v) (signals_at-all signals)

  -- sums over the signals of parts are sums over those of their items
  sum_parts_from : (kind : Header) (next : ℕ) (items : List Item)
      → sum_by (λ part. sum_by v (signals_at signals part.places)) (parts_from kind next items)
      ≡ sum_by (λ item. sum_by v (signals_at signals item.members)) items
  sum_parts_from kind next [] = refl
  sum_parts_from kind next (item ∷ items) =
      sum_by-cons (λ (part : FramePart). sum_by v (signals_at signals part.places))
      (record { at = next + header_bytes kind; places = item.members })
      (parts_from kind (next + header_bytes kind + bytes_of_item item) items)
      ∙ ap (λ n. sum_by v (signals_at signals item.members) + n)
      (sum_parts_from kind (next + header_bytes kind + bytes_of_item item) items)
      ∙ sym (sum_by-cons (λ (y : Item). sum_by v (signals_at signals y.members)) item items)

  sum_parts : (kind : Header) (items : List Item)
      → sum_by (λ part. sum_by v (signals_at signals part.places)) (parts_with kind items)
      ≡ sum_by (λ item. sum_by v (signals_at signals item.members)) items
  sum_parts NoHeader items =
      sum_by-cons (λ (part : FramePart). sum_by v (signals_at signals part.places))
      (record { at = 0; places = flat_map (λ (item : Item). item.members) items }) []
      ∙ add-zero (sum_by v (signals_at signals (flat_map (λ (item : Item). item.members) items)))
      ∙ ap (sum_by v) (signals_at-items signals items)
      ∙ sum_by-flat_map v (λ (item : Item). signals_at signals item.members) items
  sum_parts Short items = sum_parts_from Short 0 items
  sum_parts Long items = sum_parts_from Long 0 items

  module _ (w : MatrixRow → ℕ)
      (same : (frame : FrameFigures) (at start : ℕ) (s : Signal) → w (row_with frame at start s) ≡ v s) where
    sum_part : (frame : FrameFigures) (part : FramePart)
        → sum_by w (rows_of_part frame signals part) ≡ sum_by v (signals_at signals part.places)
    sum_part frame part =
        sum_by-map w (row_in_part frame part.at (signals_at signals part.places))
        (enumerate_from 0 (signals_at signals part.places))
        ∙ ap (λ f. sum_by f (enumerate_from 0 (signals_at signals part.places)))
        (λ i e. same frame part.at
        (8 * part.at + start_of (widths_of (signals_at signals part.places)) e.0) e.1 i)
        ∙ sum_by-enumerate v 0 (signals_at signals part.places)

    -- sums over the rows of a frame are sums over the signals of its items
    sum_frame : (network : Network) (id : ℕ) (items : List Item)
        → sum_by w (rows_of_items network id signals items)
        ≡ sum_by (λ item. sum_by v (signals_at signals item.members)) items
    sum_frame network id items =
        sum_by-flat_map w (rows_of_part (figures_of network id items) signals) (parts_of_items items)
        ∙ ap (λ f. sum_by f (parts_of_items items)) (λ i part. sum_part (figures_of network id items) part i)
        ∙ sum_parts (header_of_items items) items

-- sums over the rows of a matrix are sums over the signals
pub sum_rows : (problem : Parts) (labels order : List ℕ) → IsSorted problem.signals problem.items
    → IsLegal problem.items labels → IsOrder labels order → (v : Signal → ℕ) (w : MatrixRow → ℕ)
    → ((frame : FrameFigures) (at start : ℕ) (s : Signal) → w (row_with frame at start s) ≡ v s)
    → sum_by w (rows_of problem labels order) ≡ sum_by v problem.signals
sum_rows problem labels order sorted legal named v w same =
    sum_by-flat_map w (rows_of_class problem labels) (enumerate_from 0 order)
    ∙ ap (λ f. sum_by f (enumerate_from 0 order))
    (λ i e. sum_frame v problem.signals w same problem.network (problem.network.first_id + e.0)
    (class_of e.1 labels problem.items) i)
    ∙ sum_by-enumerate (λ label. sum_by (λ (item : Item). sum_by v (signals_at problem.signals item.members))
    (class_of label labels problem.items)) 0 order
    ∙ sum_by-classes (λ (item : Item). sum_by v (signals_at problem.signals item.members)) order labels
    problem.items legal.grouping.each (labels_once labels order named)
    ∙ sum_over_items v problem.signals problem.items sorted
