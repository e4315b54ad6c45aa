use Rattle.std.proofs.Common.{◌≡◌, ◌≤◌, length, take, arith, ap, subst, sym, ◌∙◌}
use Rattle.std.proofs.lemmas.Bool.{false≢true}
use Rattle.pack_model.proofs.Laws.{tests}
use Rattle.placed_matrix.specs.Placed.{Placed}
use Rattle.placed_matrix.specs.OnePlace.{OnePlace}
use Rattle.class_frame.specs.Legal.{IsLegal}
use Rattle.class_frame.specs.Grouping.{IsOrder, classes_of}
use Rattle.placed_matrix.specs.Frames.{grouping_of, order_of}
use Rattle.placed_matrix.specs.Tables.{in_use}
use Rattle.placed_matrix.proofs.OnePlaceLaws.{OnePlace-from_Placed, within_frame, rows_fit}
use Rattle.placed_matrix.proofs.PlacedLaws.{labels_apart, in_use_order, frames-le-items}
use Rattle.placed_matrix.proofs.FrameLabels.{classes_of_frames, is_order, order_length}
use Rattle.placed_matrix.proofs.FoundLegal.{is_legal}
use Rattle.placed_matrix.proofs.labels.labels_of.Goals as goal
use Rattle.placed_matrix.proofs.labels.labels_of.Goals.{then-not-frames_agree-via-then-not-frames_agree, then-not-frames_agree-via-else-not-frames_agree+then-not-parts_agree, then-not-rows_fit-via-then-not-rows_fit, then-not-rows_fit-via-else-not-rows_fit+then-not-are_apart}

pub returns-then-not-frames_agree-clause-not_placed : goal.returns-then-not-frames_agree-clause-not_placed
returns-then-not-frames_agree-clause-not_placed c = λ _ given.
    let placed : Placed c.args.problem.now c.rows-rows.result.now =
    subst (Placed c.args.problem.now) (sym c.rows-rows.ensures.rows) given in
    elim c.then-not-frames_agree.branch [
      | then-not-frames_agree-via-then-not-frames_agree w ↦ false≢true
          (sym w.if-not-frames_agree.true
          ∙ c.frames_agree.ensures.1
          (λ i j d before within same.
          record {
            frame = placed.frames_agree i j d before within same;
            kind = (placed.one_kind i j d before within).kind same;
          }))
      | then-not-frames_agree-via-else-not-frames_agree+then-not-parts_agree w ↦ false≢true
          (sym w.if-not-parts_agree.true ∙ w.parts_agree.ensures.1 (λ i j d before within. record {
            part = (placed.one_kind i j d before within).part;
            apart = placed.parts_begin_apart i j d before within;
          }))
    ]

pub parts_agree-requires-clause-frames : goal.parts_agree-requires-clause-frames
parts_agree-requires-clause-frames c = c.frames_agree.ensures.0 c.if-not-frames_agree.false

pub rows_fit-requires-clause-parts : goal.rows_fit-requires-clause-parts
rows_fit-requires-clause-parts c =
    λ i j d before within. (c.parts_agree.ensures.0 c.if-not-parts_agree.false i j d before within).part

pub are_apart-requires-clause-inside : goal.are_apart-requires-clause-inside
are_apart-requires-clause-inside c =
    let together = c.parts_agree.ensures.0 c.if-not-parts_agree.false in
    within_frame c.args.problem.now c.number_frames-label_of.ensures.problem.0
    c.number_frames-label_of.ensures.problem.1 c.rows-rows.result.now c.in_ok-row_of.ensures.0
    c.in_ok-row_of.row_of c.in_ok-row_of.ensures.1
    (λ i j d before within same.
    (c.frames_agree.ensures.0 c.if-not-frames_agree.false i j d before within same).kind)
    (λ i j d before within. (together i j d before within).part)
    (c.rows_fit.ensures.0 c.if-not-rows_fit.false)

pub are_apart-requires-clause-labels : goal.are_apart-requires-clause-labels
are_apart-requires-clause-labels c =
    labels_apart c.args.problem.now c.number_frames-label_of.ensures.problem.0
    c.number_frames-label_of.ensures.problem.1 c.rows-rows.result.now c.in_ok-row_of.ensures.0
    c.in_ok-row_of.row_of c.in_ok-row_of.ensures.1
    (λ i j d before within. (c.parts_agree.ensures.0 c.if-not-parts_agree.false i j d before within).part)
    c.number_frames-label_of.result c.rows-rows.ensures.in_range c.number_frames-label_of.ensures.table

pub returns-then-not-rows_fit-clause-not_placed : goal.returns-then-not-rows_fit-clause-not_placed
returns-then-not-rows_fit-clause-not_placed c = λ _ given.
    let placed : Placed c.args.problem.now c.rows-rows.result.now =
    subst (Placed c.args.problem.now) (sym c.rows-rows.ensures.rows) given in
    elim c.then-not-rows_fit.branch [
      | then-not-rows_fit-via-then-not-rows_fit w ↦ false≢true
          (sym w.if-not-rows_fit.true
          ∙ c.rows_fit.ensures.1 (rows_fit c.args.problem.now c.rows-rows.result.now placed))
      | then-not-rows_fit-via-else-not-rows_fit+then-not-are_apart w ↦ false≢true
          (sym w.if-not-are_apart.true ∙ w.are_apart.ensures.1 placed.no_overlap)
    ]

pub put_in_order-requires : goal.put_in_order-requires
put_in_order-requires c =
    let used : in_use c.number_frames-label_of.result ≡ order_of c.args.problem.now c.rows-rows.result.now =
    in_use_order c.args.problem.now c.number_frames-label_of.ensures.problem.0
    c.number_frames-label_of.ensures.problem.1 c.rows-rows.result.now c.in_ok-row_of.ensures.0
    c.in_ok-row_of.row_of c.in_ok-row_of.ensures.1
    (λ i j d before within. (c.parts_agree.ensures.0 c.if-not-parts_agree.false i j d before within).part)
    c.number_frames-label_of.result c.number_frames-label_of.ensures.long
    c.number_frames-label_of.ensures.table in
    omega (
      arith,
      ap length used,
      order_length c.args.problem.now c.rows-rows.result.now c.rows-rows.ensures.in_range,
      frames-le-items c.args.problem.now c.rows-rows.result.now,
      c.requires.order,
    )

pub overflow_cast-result : goal.overflow_cast-result
overflow_cast-result c =
    let used : in_use c.number_frames-label_of.result ≡ order_of c.args.problem.now c.rows-rows.result.now =
    in_use_order c.args.problem.now c.number_frames-label_of.ensures.problem.0
    c.number_frames-label_of.ensures.problem.1 c.rows-rows.result.now c.in_ok-row_of.ensures.0
    c.in_ok-row_of.row_of c.in_ok-row_of.ensures.1
    (λ i j d before within. (c.parts_agree.ensures.0 c.if-not-parts_agree.false i j d before within).part)
    c.number_frames-label_of.result c.number_frames-label_of.ensures.long
    c.number_frames-label_of.ensures.table in
    let low : c.put_in_order.result ≤ 128 =
    omega (
      arith,
      c.put_in_order.ensures.count,
      ap length used,
      order_length c.args.problem.now c.rows-rows.result.now c.rows-rows.ensures.in_range,
      frames-le-items c.args.problem.now c.rows-rows.result.now,
      (tests c.args.problem.now c.number_frames-label_of.ensures.problem.0).few_items,
    ) in
    omega (arith, low)

placed_rows : (c : goal.After-slice_known-4-1) → Placed c.args.problem.now c.rows-rows.result.now
placed_rows c =
    let together = c.parts_agree.ensures.0 c.if-not-parts_agree.false in
    let fits = c.rows_fit.ensures.0 c.if-not-rows_fit.false in
    record {
      one_row = c.in_ok-row_of.ensures.0;
      frames_agree =
          λ i j d before within same.
          (c.frames_agree.ensures.0 c.if-not-frames_agree.false i j d before within same).frame;
      one_kind =
          λ i j d before within. record {
            kind =
                λ same. (c.frames_agree.ensures.0 c.if-not-frames_agree.false i j d before within same).kind;
            part = (together i j d before within).part;
          };
      header_kind = λ k d lt. (fits k d lt).header;
      parts_in_a_row = λ k d lt. (fits k d lt).in_a_row;
      parts_begin_apart = λ i j d before within. (together i j d before within).apart;
      size_and_ticks = λ k d lt. (fits k d lt).frame;
      inside_the_part = λ k d lt. (fits k d lt).inside;
      no_overlap = c.are_apart.ensures.0 c.if-not-are_apart.false;
    }

pub returns-clause-placed : goal.returns-clause-placed
returns-clause-placed c = subst (Placed c.args.problem.now) c.rows-rows.ensures.rows (placed_rows c)

pub returns-clause-one_place : goal.returns-clause-one_place
returns-clause-one_place c =
    let together = c.parts_agree.ensures.0 c.if-not-parts_agree.false in
    subst (OnePlace c.args.problem.now) c.rows-rows.ensures.rows
    (OnePlace-from_Placed c.args.problem.now c.number_frames-label_of.ensures.problem.0
    c.number_frames-label_of.ensures.problem.1 c.rows-rows.result.now c.in_ok-row_of.ensures.0
    c.in_ok-row_of.row_of c.in_ok-row_of.ensures.1
    (λ i j d before within same.
    (c.frames_agree.ensures.0 c.if-not-frames_agree.false i j d before within same).kind)
    (λ i j d before within. (together i j d before within).part)
    (c.rows_fit.ensures.0 c.if-not-rows_fit.false) (placed_rows c))

-- the labels in use are those of the frames by ascending identifier
used : (c : goal.After-slice_known-4-1)
    → in_use c.number_frames-label_of.result ≡ order_of c.args.problem.now c.rows-rows.result.now
used c =
    in_use_order c.args.problem.now c.number_frames-label_of.ensures.problem.0
    c.number_frames-label_of.ensures.problem.1 c.rows-rows.result.now c.in_ok-row_of.ensures.0
    c.in_ok-row_of.row_of c.in_ok-row_of.ensures.1
    (λ i j d before within. (c.parts_agree.ensures.0 c.if-not-parts_agree.false i j d before within).part)
    c.number_frames-label_of.result c.number_frames-label_of.ensures.long
    c.number_frames-label_of.ensures.table

pub returns-clause-frames : goal.returns-clause-frames
returns-clause-frames c =
    c.put_in_order.ensures.count ∙ ap length (used c)
    ∙ order_length c.args.problem.now c.rows-rows.result.now c.rows-rows.ensures.in_range
    ∙ sym (classes_of_frames c.args.problem.now c.rows-rows.result.now)
    ∙ ap classes_of (sym c.number_frames-label_of.ensures.labels)

pub returns-clause-named : goal.returns-clause-named
returns-clause-named c =
    subst (λ ls. IsOrder ls (take c.put_in_order.result c.put_in_order.new.order))
    (sym c.number_frames-label_of.ensures.labels)
    (subst (IsOrder (grouping_of c.args.problem.now c.rows-rows.result.now))
    (sym (c.put_in_order.ensures.order ∙ used c))
    (is_order c.args.problem.now c.rows-rows.result.now c.rows-rows.ensures.in_range))

pub returns-clause-order : goal.returns-clause-order
returns-clause-order c =
    c.put_in_order.ensures.order
    ∙ in_use_order c.args.problem.now c.number_frames-label_of.ensures.problem.0
    c.number_frames-label_of.ensures.problem.1 c.rows-rows.result.now c.in_ok-row_of.ensures.0
    c.in_ok-row_of.row_of c.in_ok-row_of.ensures.1
    (λ i j d before within. (c.parts_agree.ensures.0 c.if-not-parts_agree.false i j d before within).part)
    c.number_frames-label_of.result c.number_frames-label_of.ensures.long
    c.number_frames-label_of.ensures.table
    ∙ ap (λ rows. order_of c.args.problem.now rows) c.rows-rows.ensures.rows

pub returns-clause-legal : goal.returns-clause-legal
returns-clause-legal c =
    subst (IsLegal c.args.problem.now.items) (sym c.number_frames-label_of.ensures.labels)
    (is_legal c.args.problem.now c.number_frames-label_of.ensures.problem.0
    c.number_frames-label_of.ensures.problem.1 c.rows-rows.result.now
    (placed_rows c) c.in_ok-row_of.row_of c.in_ok-row_of.ensures.1)
