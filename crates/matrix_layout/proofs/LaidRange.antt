-- The rows of a matrix that was laid out are in their ranges.
use Rattle.std.proofs.Common.{◌≡◌, ℕ, ◌≤◌, List, length, get_or, All, sym, ap, subst, ◌∙◌, arith}
use Rattle.std.specs.Prelude.{IfSome}
use Rattle.std.specs.Option.{unwrap_or}
use Rattle.pack_model.specs.declared.network.Network.{Network}
use Rattle.pack_model.specs.Network.{NetworkStands}
use Rattle.pack_model.specs.Signal.{SignalStands}
use Rattle.pack_model.specs.Problem.{Parts, IsProblem, IsSorted}
use Rattle.class_frame.specs.Grouping.{IsOrder}
use Rattle.pack_model.proofs.Laws.{tests}
use Rattle.class_frame.proofs.GroupingLaws.{length-order, classes_of-le-length}
use Rattle.class_frame.specs.Legal.{IsLegal}
use Rattle.class_frame.specs.Frame.{bytes_of_items, size_of_items}
use Rattle.fd_length.specs.Size.{IsSize}
use Rattle.fd_length.proofs.Sizes.{IsFdSize-from_value, IsSize-at_most}
use Rattle.frame_ticks.specs.Worst.{worst_ticks_of}
use Rattle.frame_ticks.proofs.WorstLaws.{worst_ticks_of-rises}
use Rattle.matrix_rows.specs.declared.matrix.MatrixRow.{MatrixRow}
use Rattle.matrix_rows.specs.Row.{RowInRange}
use Rattle.matrix_layout.specs.LaidOut.{rows_of}
use Rattle.matrix_layout.proofs.LaidRows.{class_at, IsLaid, all_laid, in_list}
use Rattle.matrix_layout.proofs.LaidSeen.{seen, ends_in_class, class_sized}

-- no frame lasts longer than the limit of a row
few_ticks : (network : Network) (size : ℕ) → NetworkStands network → size ≤ 64
    → worst_ticks_of network size ≤ 9999999999
few_ticks network size stands small =
    omega (arith, worst_ticks_of-rises network size 64 small, stands.nominal_high, stands.data_high)

module _ (problem : Parts) (labels order : List ℕ) (stands : IsProblem problem)
    (sorted : IsSorted problem.signals problem.items) (legal : IsLegal problem.items labels)
    (named : IsOrder labels order) where
  -- there are at most 128 frames
  pub few_frames : length order ≤ 128
  few_frames =
      omega (
        arith,
        length-order labels order named,
        classes_of-le-length problem.items labels legal.grouping,
        (tests problem stands).few_items,
      )

  -- a frame's size is one of the list
  class_listed : (place : ℕ) → IsSize (unwrap_or (size_of_items (class_at problem labels order place)) 0)
  class_listed place =
      (IsFdSize-from_value (bytes_of_items (class_at problem labels order place))
      (unwrap_or (size_of_items (class_at problem labels order place)) 0)
      (class_sized problem labels order stands sorted legal named place)).listed

  -- the signal of a row is in its range
  signal_stands : (row : MatrixRow) (laid : IsLaid problem labels order row) → SignalStands laid.signal
  signal_stands row laid =
      subst SignalStands (sym laid.at)
      (stands.signals (get_or laid.part.places laid.number 0) laid.signal
      (in_list problem labels order stands sorted legal named row laid))

  -- the figures of a row are in their ranges
  row_in_range : (row : MatrixRow) → IsLaid problem labels order row → RowInRange row
  row_in_range row laid =
      let (place, in_order, is) = seen problem labels order stands sorted legal named row laid in
      let signal = signal_stands row laid in
      let listed = class_listed place in
      let bits : row.bits ≡ laid.signal.bits = ap (λ (r : MatrixRow). r.bits) laid.is in
      let ends = ends_in_class problem labels order stands sorted legal named place row is in
      let small = (legal.classes (get_or order place 0)).small in
      record {
        id = omega (arith, is.id, in_order, few_frames, stands.network.first_id_high);
        size = subst IsSize (sym is.size) listed;
        ticks =
            omega (
              arith,
              is.ticks,
              few_ticks problem.network
                  (unwrap_or (size_of_items (class_at problem labels order place)) 0) stands.network
                  (IsSize-at_most (unwrap_or (size_of_items (class_at problem labels order place)) 0) listed),
            );
        pdu =
            λ id some. subst (λ o. IfSome o (λ x. 1 ≤ x))
            (sym (ap (λ (r : MatrixRow). r.pdu) laid.is) ∙ some) signal.pdu_low;
        at = omega (arith, ends, small, is.starts, bits, signal.bits_low);
        start = omega (arith, ends, small, bits, signal.bits_low);
        bits_low = omega (arith, bits, signal.bits_low);
        bits_high = omega (arith, bits, signal.bits_high);
      }

  pub laid_in_range : All RowInRange (rows_of problem labels order)
  laid_in_range =
      λ k d lt. row_in_range (get_or (rows_of problem labels order) k d)
      (all_laid problem labels order sorted k d lt)
