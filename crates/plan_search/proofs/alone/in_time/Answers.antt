use Rattle.std.proofs.Common.{◌≡◌, List, ap, sym, ◌∙◌, subst}
use Rattle.pack_model.specs.declared.network.Network.{Network}
use Rattle.busy_period.specs.declared.timed.Timed.{Timed}
use Rattle.response_test.specs.Order.{OrderPasses}
use Rattle.priority_assign.specs.Lowest.{IsLowestFirst}
use Rattle.class_frame.specs.Legal.{IsLegal}
use Rattle.matrix_layout.proofs.OneEach.{one_each_legal}
use Rattle.plan_search.specs.Alone.{frames_alone}
use Rattle.plan_search.specs.Lines.{AreLeastLines}
use Rattle.plan_search.proofs.Accepted.{timed_accepted, timed_planned}
use Rattle.plan_search.proofs.Orders.{order_that_passes}
use Rattle.plan_search.proofs.alone.in_time.Goals as goal

pub matrix_of-requires-clause-legal : goal.matrix_of-requires-clause-legal
matrix_of-requires-clause-legal c = subst (IsLegal c.args.problem.now.items) (sym c.requires.labels)
    (one_each_legal c.args.problem.now c.network.ensures.problem)

pub matrix_of-requires-clause-order : goal.matrix_of-requires-clause-order
matrix_of-requires-clause-order c =
    order_that_passes c.args.problem.now c.args.labels.now c.args.order.now c.args.frames.now
    c.args.problem.now.network.nominal_ticks c.requires.labels c.requires.frames c.requires.passes

pub returns-clause-exact : goal.returns-clause-exact
returns-clause-exact c =
    let bit : c.from-bit.result ≡ c.args.problem.now.network.nominal_ticks = c.from-bit.ensures ∙ ap
    (λ (n : Network). n.nominal_ticks) c.network.ensures.network in
    let least : AreLeastLines (frames_alone c.args.problem.now) c.args.order.now
    c.args.problem.now.network.nominal_ticks c.in_ok-lines.lines.items =
    subst (λ time. AreLeastLines (frames_alone c.args.problem.now) c.args.order.now time
    c.in_ok-lines.lines.items) bit
    (subst (λ (frames : List Timed). AreLeastLines frames c.args.order.now c.from-bit.result
    c.in_ok-lines.lines.items) c.requires.frames c.in_ok-lines.ensures.least) in
    timed_planned c.args.problem.now c.in_ok-matrix.matrix c.args.order.now c.in_ok-lines.lines.items
    c.network.ensures.problem c.args.labels.now c.requires.labels c.in_ok-matrix.ensures.rows
    (subst (λ (frames : List Timed). IsLowestFirst frames c.args.problem.now.network.nominal_ticks 0
    c.args.order.now) c.requires.frames c.requires.lowest_first)
    (subst (λ (frames : List Timed). OrderPasses frames c.args.problem.now.network.nominal_ticks
    c.args.order.now) c.requires.frames c.requires.passes)
    least c.timed_cert.result c.timed_cert.ensures

pub returns-clause-accepted : goal.returns-clause-accepted
returns-clause-accepted c =
    let bit : c.from-bit.result ≡ c.args.problem.now.network.nominal_ticks = c.from-bit.ensures ∙ ap
    (λ (n : Network). n.nominal_ticks) c.network.ensures.network in
    let least : AreLeastLines (frames_alone c.args.problem.now) c.args.order.now
    c.args.problem.now.network.nominal_ticks c.in_ok-lines.lines.items =
    subst (λ time. AreLeastLines (frames_alone c.args.problem.now) c.args.order.now time
    c.in_ok-lines.lines.items) bit
    (subst (λ (frames : List Timed). AreLeastLines frames c.args.order.now c.from-bit.result
    c.in_ok-lines.lines.items) c.requires.frames c.in_ok-lines.ensures.least) in
    timed_accepted c.args.problem.now c.in_ok-matrix.matrix c.args.order.now c.in_ok-lines.lines.items
    c.in_ok-matrix.ensures.placed
    (c.in_ok-matrix.ensures.grouping ∙ c.requires.labels) c.in_ok-matrix.ensures.order least
    (subst (λ (frames : List Timed). OrderPasses frames c.args.problem.now.network.nominal_ticks
    c.args.order.now) c.requires.frames c.requires.passes)
    c.timed_cert.result c.timed_cert.ensures
