use Rattle.std.proofs.Common.{◌≡◌, ◌<◌, ◌≤◌, ◌+◌, length, arith, get_or, ap, subst, sym, ◌∙◌, refl, nat_eq}
use Rattle.std.proofs.lemmas.List.{get_or-replicate, length-set, length-map, take_all, get_or-set_same}
use Rattle.pack_model.specs.Problem.{distinct}
use Rattle.pack_model.proofs.Laws.{tests}
use Rattle.placed_matrix.specs.Frames.{identifiers_of, grouping_of}
use Rattle.placed_matrix.specs.Tables.{no_label, HasLabels}
use Rattle.placed_matrix.proofs.Numbering.{firsts, step_known, step_new, few}
use Rattle.placed_matrix.proofs.FramesFound.{first_found, identifier_is, labels_more}
use Rattle.placed_matrix.proofs.frames.number_frames.Goals as goal
use Rattle.placed_matrix.proofs.frames.number_frames.Goals.{then-label_of-id, else-label_of-id}

pub loop-number-init : goal.loop-number-init
loop-number-init c = record {
  long = refl;
  table = λ id below. get_or-replicate 2048 id no_label 0 below;
  frames = refl;
  labels = refl;
}

pub first_row-requires-clause-member : goal.first_row-requires-clause-member
first_row-requires-clause-member c =
    first_found c.args.problem.now c.items-items.ensures.sorted c.args.rows.now c.args.row_of.now
    c.requires.rows c.items-items.result.now c.items-items.ensures.items c.loop-number.number
    c.index-items-number.result c.loop-number-test.true c.index-items-number.is
    (tests c.args.problem.now c.items-items.ensures.problem).few

pub overflow_add-frames : goal.overflow_add-frames
overflow_add-frames c =
    let items : c.items-items.result.now ≡ c.args.problem.now.items = c.items-items.ensures.items in
    let ids : length (identifiers_of c.args.problem.now c.args.rows.now) ≡ length c.args.problem.now.items =
    simp length-map in
    omega (
      arith,
      ap length items,
      ids,
      few (identifiers_of c.args.problem.now c.args.rows.now) c.loop-number.number
          (omega (arith, ap length items, ids)),
      (tests c.args.problem.now c.items-items.ensures.problem).few_items,
      c.loop-number.invariant.frames,
    )

pub loop-number-preserved : goal.loop-number-preserved
loop-number-preserved c =
    let items : c.items-items.result.now ≡ c.args.problem.now.items = c.items-items.ensures.items in
    let lt : c.loop-number.number < length c.args.problem.now.items = omega (arith, ap length items) in
    let lt_ids : c.loop-number.number < length (identifiers_of c.args.problem.now c.args.rows.now) =
    simp length-map lt in
    let small : length (identifiers_of c.args.problem.now c.args.rows.now) ≤ 128 =
    simp length-map (tests c.args.problem.now c.items-items.ensures.problem).few_items in
    let room : c.loop-number.number < length c.loop-number.labels =
    omega (arith, lt, c.loop-number.auto.labels, c.requires.labels) in
    let at : get_or (identifiers_of c.args.problem.now c.args.rows.now) c.loop-number.number 0
    ≡ c.first_row.result.now.id =
    identifier_is c.args.problem.now c.items-items.ensures.sorted c.args.rows.now c.args.row_of.now
    c.requires.rows c.items-items.result.now items c.loop-number.number c.index-items-number.result
    c.loop-number-test.true c.index-items-number.is c.first_row.result.now c.first_row.ensures.row in
    let below : c.first_row.result.now.id < 2048 = omega (arith, c.first_row.ensures.in_range.id) in
    elim c.if-label_of-id.branch [
      | then-label_of-id w ↦
          let step =
          step_new (identifiers_of c.args.problem.now c.args.rows.now) c.loop-number.number
          c.first_row.result.now.id lt_ids at c.loop-number.label_of c.loop-number.frames below
          c.loop-number.invariant.long small c.loop-number.invariant.table c.loop-number.invariant.frames
          w.if-label_of-id.true in
          let inside : c.first_row.result.now.id < length c.loop-number.label_of =
          omega (arith, below, c.loop-number.invariant.long) in
          record {
            long = ap length w.label_of-is ∙ length-set _ _ _ ∙ c.loop-number.invariant.long;
            table =
                subst (HasLabels (firsts (identifiers_of c.args.problem.now c.args.rows.now)
                (c.loop-number.number + 1))) (sym w.label_of-is) step.0;
            frames = w.frames-is ∙ step.2;
            labels =
                labels_more c.args.problem.now c.args.rows.now c.loop-number.labels c.loop-number.number _
                c.first_row.result.now.id lt room at
                (ap (λ t. get_or t c.first_row.result.now.id 0) w.label_of-is
                ∙ get_or-set_same c.loop-number.label_of c.first_row.result.now.id c.loop-number.frames 0
                inside ∙ step.1) c.loop-number.invariant.labels;
          }
      | else-label_of-id w ↦
          let step =
          step_known (identifiers_of c.args.problem.now c.args.rows.now) c.loop-number.number
          c.first_row.result.now.id lt_ids at c.loop-number.label_of c.loop-number.frames below
          c.loop-number.invariant.table c.loop-number.invariant.frames w.if-label_of-id.false in
          record {
            long = ap length w.label_of-is ∙ c.loop-number.invariant.long;
            table =
                subst (HasLabels (firsts (identifiers_of c.args.problem.now c.args.rows.now)
                (c.loop-number.number + 1))) (sym w.label_of-is) step.0;
            frames = w.frames-is ∙ step.2;
            labels =
                labels_more c.args.problem.now c.args.rows.now c.loop-number.labels c.loop-number.number _
                c.first_row.result.now.id lt room at
                (ap (λ t. get_or t c.first_row.result.now.id 0) w.label_of-is ∙ step.1)
                c.loop-number.invariant.labels;
          }
    ]

pub returns-clause-labels : goal.returns-clause-labels
returns-clause-labels c =
    let ids : length (identifiers_of c.args.problem.now c.args.rows.now) ≡ length c.args.problem.now.items =
    simp length-map in
    let labels : length (grouping_of c.args.problem.now c.args.rows.now) ≡ length c.args.problem.now.items =
    simp length-map in
    let all : length c.args.problem.now.items ≤ c.loop-number.number =
    omega (arith, ap length c.items-items.ensures.items) in
    sym (take_all c.loop-number.number c.loop-number.labels
    (omega (arith, all, c.loop-number.auto.labels, c.requires.labels))) ∙ c.loop-number.invariant.labels
    ∙ take_all c.loop-number.number (grouping_of c.args.problem.now c.args.rows.now)
    (omega (arith, all, labels))

pub returns-clause-table : goal.returns-clause-table
returns-clause-table c =
    let ids : length (identifiers_of c.args.problem.now c.args.rows.now) ≡ length c.args.problem.now.items =
    simp length-map in
    let all : length c.args.problem.now.items ≤ c.loop-number.number =
    omega (arith, ap length c.items-items.ensures.items) in
    subst (λ l. HasLabels (distinct nat_eq l) c.loop-number.label_of)
    (take_all c.loop-number.number (identifiers_of c.args.problem.now c.args.rows.now)
    (omega (arith, all, ids))) c.loop-number.invariant.table
