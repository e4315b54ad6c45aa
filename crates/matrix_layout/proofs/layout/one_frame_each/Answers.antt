use Rattle.std.proofs.Common.{◌≡◌, length, sym, ap, subst, ◌∙◌, arith, IfOk}
use Rattle.std.specs.List.{range_with_len}
use Rattle.class_frame.specs.Grouping.{IsOrder}
use Rattle.pack_model.proofs.Laws.{tests}
use Rattle.class_frame.specs.Legal.{IsLegal}
use Rattle.placed_matrix.specs.Frames.{grouping_of, order_of}
use Rattle.matrix_layout.specs.LaidOut.{rows_of}
use Rattle.matrix_layout.proofs.OneEach.{one_each_legal, one_each_order}
use Rattle.matrix_layout.proofs.layout.one_frame_each.Goals as goal

pub overflow_cast-items : goal.overflow_cast-items
overflow_cast-items c =
    omega (
      arith,
      ap length c.items.ensures.items,
      (tests c.args.problem.now c.items.ensures.problem).few_items,
    )

pub matrix_of-requires-clause-legal : goal.matrix_of-requires-clause-legal
matrix_of-requires-clause-legal c =
    let numbers : c.as_slice.result.now ≡ range_with_len 0 (length c.args.problem.now.items) =
    c.as_slice.ensures.value ∙ c.in_ok-numbers.ensures
    ∙ ap (λ items. range_with_len 0 (length items)) c.items.ensures.items in
    subst (IsLegal c.args.problem.now.items) (sym numbers)
    (one_each_legal c.args.problem.now c.items.ensures.problem)

pub matrix_of-requires-clause-order : goal.matrix_of-requires-clause-order
matrix_of-requires-clause-order c =
    let first : c.as_slice.result.now ≡ range_with_len 0 (length c.items.result.now) =
    c.as_slice.ensures.value ∙ c.in_ok-numbers.ensures in
    let second : c.as_slice-2.result.now ≡ range_with_len 0 (length c.items.result.now) =
    c.as_slice-2.ensures.value ∙ c.in_ok-numbers.ensures in
    subst (λ ls. IsOrder ls c.as_slice-2.result.now) (sym first)
    (subst (IsOrder (range_with_len 0 (length c.items.result.now))) (sym second)
    (one_each_order (length c.items.result.now)))

pub returns-clause-rows : goal.returns-clause-rows
returns-clause-rows c =
    let first : c.as_slice.result.now ≡ range_with_len 0 (length c.args.problem.now.items) =
    c.as_slice.ensures.value ∙ c.in_ok-numbers.ensures
    ∙ ap (λ items. range_with_len 0 (length items)) c.items.ensures.items in
    let second : c.as_slice-2.result.now ≡ range_with_len 0 (length c.args.problem.now.items) =
    c.as_slice-2.ensures.value ∙ c.in_ok-numbers.ensures
    ∙ ap (λ items. range_with_len 0 (length items)) c.items.ensures.items in
    subst (λ o. IfOk c.matrix_of.result
    (λ matrix. matrix ≡ rows_of c.args.problem.now
    (range_with_len 0 (length c.args.problem.now.items)) o)) second
    (subst (λ ls. IfOk c.matrix_of.result
    (λ matrix. matrix ≡ rows_of c.args.problem.now ls c.as_slice-2.result.now)) first
    c.matrix_of.ensures.rows)

pub returns-clause-grouping : goal.returns-clause-grouping
returns-clause-grouping c =
    let first : c.as_slice.result.now ≡ range_with_len 0 (length c.args.problem.now.items) =
    c.as_slice.ensures.value ∙ c.in_ok-numbers.ensures
    ∙ ap (λ items. range_with_len 0 (length items)) c.items.ensures.items in
    subst (λ ls. IfOk c.matrix_of.result (λ matrix. grouping_of c.args.problem.now matrix ≡ ls)) first
    c.matrix_of.ensures.grouping

pub returns-clause-order : goal.returns-clause-order
returns-clause-order c =
    let second : c.as_slice-2.result.now ≡ range_with_len 0 (length c.args.problem.now.items) =
    c.as_slice-2.ensures.value ∙ c.in_ok-numbers.ensures
    ∙ ap (λ items. range_with_len 0 (length items)) c.items.ensures.items in
    subst (λ o. IfOk c.matrix_of.result (λ matrix. order_of c.args.problem.now matrix ≡ o)) second
    c.matrix_of.ensures.order
