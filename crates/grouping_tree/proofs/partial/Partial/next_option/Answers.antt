use Rattle.std.proofs.Common.{◌≡◌, ◌<◌, ◌+◌, sym, ap, ◌∙◌, arith}
use Rattle.class_frame.specs.Grouping.{classes_of}
use Rattle.grouping_tree.specs.Grouped.{labels_of, range_of}
use Rattle.grouping_tree.specs.Walk.{options_from}
use Rattle.grouping_tree.proofs.Earlier.{earlier_low, from-earlier}
use Rattle.grouping_tree.proofs.Puts.{put-legal}
use Rattle.grouping_tree.proofs.Used.{counted, long, new_legal}
use Rattle.grouping_tree.proofs.Walks.{from-here, from-next, from-past}
use Rattle.grouping_tree.proofs.partial.Partial.next_option.Goals as goal

pub loop-label-init : goal.loop-label-init
loop-label-init c =
    let problem = c.args.problem.now in
    let p = c.args.self.now in
    let next = c.next_alone-next.ensures problem c.requires in
    from-earlier (range_of problem p) (labels_of p) c.args.from 0 c.first_option-first.result next.some
    (c.first_option-first.ensures problem c.requires next 0)
    ∙ ap (options_from (range_of problem p) (labels_of p)) (sym c.max-label.ensures)

pub first_option-first-requires : goal.first_option-first-requires
first_option-first-requires c =
    (c.args.problem.now, c.requires, c.next_alone-next.ensures c.args.problem.now c.requires)

pub returns-then-may_put-clause-option : goal.returns-then-may_put-clause-option
returns-then-may_put-clause-option c =
    let b = c.requires in
    let next = c.next_alone-next.ensures c.args.problem.now b in
    let low : c.loop-label.label < classes_of (labels_of c.args.self.now) + 1 = omega (arith, b.classes, c.loop-label-test.true) in
    c.loop-label.invariant ∙ from-here (range_of c.args.problem.now c.args.self.now) (labels_of c.args.self.now) c.loop-label.label next.some low
    (sym (c.may_put.ensures c.args.problem.now b next) ∙ c.if-may_put.true)

pub returns-then-may_put-clause-legal : goal.returns-then-may_put-clause-legal
returns-then-may_put-clause-legal c =
    let b = c.requires in
    let next = c.next_alone-next.ensures c.args.problem.now b in
    let low : c.loop-label.label < classes_of (labels_of c.args.self.now) + 1 = omega (arith, b.classes, c.loop-label-test.true) in
    put-legal (range_of c.args.problem.now c.args.self.now) (labels_of c.args.self.now) c.loop-label.label b.legal next.some (omega (arith, low))
    (sym (c.may_put.ensures c.args.problem.now b next) ∙ c.if-may_put.true)

pub loop-label-preserved : goal.loop-label-preserved
loop-label-preserved c =
    let b = c.requires in
    let next = c.next_alone-next.ensures c.args.problem.now b in
    let low : c.loop-label.label < classes_of (labels_of c.args.self.now) + 1 = omega (arith, b.classes, c.loop-label-test.true) in
    c.loop-label.invariant ∙ from-next (range_of c.args.problem.now c.args.self.now) (labels_of c.args.self.now) c.loop-label.label next.some low
    (sym (c.may_put.ensures c.args.problem.now b next) ∙ c.if-may_put.false)

pub returns-then-self-from-clause-option : goal.returns-then-self-from-clause-option
returns-then-self-from-clause-option c =
    from-past (range_of c.args.problem.now c.args.self.now) (labels_of c.args.self.now) c.args.from
    (omega (arith, c.requires.classes, c.if-self-from.true))

pub returns-clause-option : goal.returns-clause-option
returns-clause-option c =
    let problem = c.args.problem.now in
    let p = c.args.self.now in
    let b = c.requires in
    let next = c.next_alone-next.ensures problem b in
    let low =
    earlier_low (range_of problem p) (labels_of p) 0 c.first_option-first.result
    (c.first_option-first.ensures problem b next 0) in
    let last : c.loop-label.label ≡ p.classes =
    omega (arith, low, b.classes, c.max-label.ensures, c.if-self-from.false, c.loop-label-test.false) in
    c.loop-label.invariant ∙ ap (options_from (range_of problem p) (labels_of p)) last
    ∙ from-here (range_of problem p) (labels_of p) p.classes next.some (omega (arith, b.classes))
    (new_legal problem p b next.some)

pub returns-clause-legal : goal.returns-clause-legal
returns-clause-legal c =
    let problem = c.args.problem.now in
    let p = c.args.self.now in
    let b = c.requires in
    let next = c.next_alone-next.ensures problem b in
    put-legal (range_of problem p) (labels_of p) p.classes b.legal next.some (omega (arith, b.classes))
    (new_legal problem p b next.some)

pub next_alone-next-requires : goal.next_alone-next-requires
next_alone-next-requires c =
    let problem = c.args.problem.now in
    let p = c.args.self.now in
    (problem, c.requires, omega (arith, counted problem p c.requires, long problem p c.requires, c.requires.within))
