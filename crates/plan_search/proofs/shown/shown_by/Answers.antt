use Rattle.std.proofs.Common.{◌≡◌, List, length, sym, ap, ◌∙◌, subst, arith}
use Rattle.pack_model.specs.declared.network.Network.{Network}
use Rattle.busy_period.specs.declared.timed.Timed.{Timed}
use Rattle.response_test.specs.Order.{OrderPasses}
use Rattle.class_frame.specs.Grouping.{IsOrder, classes_of}
use Rattle.search_judge.specs.Findings.{frames_at}
use Rattle.plan_search.proofs.Founds.{is_order, order_count, order_few}
use Rattle.plan_search.proofs.shown.shown_by.Goals as goal

pub overflow_cast-order : goal.overflow_cast-order
overflow_cast-order c =
    let few = order_few c.args.problem.now c.args.found.now.labels c.args.found.now.order
    c.requires.lowest_first c.network.ensures.problem c.requires.legal in
    omega (arith, few, ap length c.as_slice-order.ensures)

pub class_frames-requires-clause-classes : goal.class_frames-requires-clause-classes
class_frames-requires-clause-classes c =
    ap length c.as_slice-order.ensures
    ∙ order_count c.args.problem.now c.args.found.now.labels c.args.found.now.order c.requires.lowest_first
    ∙ ap classes_of (sym c.as_slice-labels.ensures)

pub least_lines-requires-clause-passes : goal.least_lines-requires-clause-passes
least_lines-requires-clause-passes c =
    let value : c.deref.result.now ≡ frames_at c.args.problem.now c.args.found.now.labels =
    c.deref.ensures.value ∙ c.in_ok-frames.ensures.value
    ∙ ap (frames_at c.args.problem.now) c.as_slice-labels.ensures in
    let bit : c.from-bit.result ≡ c.args.problem.now.network.nominal_ticks =
    c.from-bit.ensures ∙ ap (λ (n : Network). n.nominal_ticks) c.network.ensures.network in
    let here : OrderPasses c.deref.result.now c.from-bit.result c.as_slice-order.result.now =
    subst (λ (frames : List Timed). OrderPasses frames c.from-bit.result c.as_slice-order.result.now)
    (sym value)
    (subst (λ time. OrderPasses (frames_at c.args.problem.now c.args.found.now.labels) time
    c.as_slice-order.result.now) (sym bit)
    (subst (OrderPasses (frames_at c.args.problem.now c.args.found.now.labels)
    c.args.problem.now.network.nominal_ticks) (sym c.as_slice-order.ensures) c.requires.passes)) in
    here.passes

pub matrix_of-requires-clause-order : goal.matrix_of-requires-clause-order
matrix_of-requires-clause-order c =
    subst (IsOrder c.as_slice-labels.result.now) (sym c.as_slice-order.ensures)
    (subst (λ ls. IsOrder ls c.args.found.now.order) (sym c.as_slice-labels.ensures)
    (is_order c.args.problem.now c.args.found.now.labels c.args.found.now.order c.requires.lowest_first))
