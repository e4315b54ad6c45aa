use Rattle.std.proofs.Common.{◌≡◌, ◌<◌, ◌+◌, length, sym, ◌∙◌, arith, ap}
use Rattle.class_frame.specs.Grouping.{classes_of}
use Rattle.grouping_tree.specs.Grouped.{labels_of, range_of}
use Rattle.grouping_tree.specs.Walk.{options_from}
use Rattle.grouping_tree.proofs.Earlier.{all-earlier, earlier_low}
use Rattle.grouping_tree.proofs.Used.{counted, few, classes_few, long, new_legal}
use Rattle.grouping_tree.proofs.Walks.{from-here, from-next, from-past}
use Rattle.grouping_tree.proofs.partial.Partial.options.Goals.{then-may_put, else-may_put}
use Rattle.grouping_tree.proofs.partial.Partial.options.Goals as goal

pub loop-label-init : goal.loop-label-init
loop-label-init c =
    let problem = c.args.problem.now in
    let p = c.args.self.now in
    let next = c.next_alone-next.ensures problem c.requires in
    record {
      low = omega arith;
      all =
          omega (
            arith,
            ap length
                (all-earlier (range_of problem p) (labels_of p) 0 c.first_option-first.result next.some
                (c.first_option-first.ensures problem c.requires next 0)),
          );
    }

pub first_option-first-requires : goal.first_option-first-requires
first_option-first-requires c =
    (c.args.problem.now, c.requires, c.next_alone-next.ensures c.args.problem.now c.requires)

pub loop-label-preserved : goal.loop-label-preserved
loop-label-preserved c =
    let b = c.requires in
    let range = range_of c.args.problem.now c.args.self.now in
    let labels = labels_of c.args.self.now in
    let next = c.next_alone-next.ensures c.args.problem.now b in
    let low : c.loop-label.label < classes_of labels + 1 = omega (arith, b.classes, c.loop-label-test.true) in
    elim c.if-may_put.branch [
      | then-may_put w ↦ record {
        low = omega (arith, w.count-is, c.loop-label.invariant.low);
        all = omega (arith, w.count-is, c.loop-label.invariant.all, ap length (from-here range labels c.loop-label.label next.some low (sym (c.may_put.ensures c.args.problem.now b next) ∙ w.if-may_put.true)));
      }
      | else-may_put w ↦ record {
        low = omega (arith, w.count-is, c.loop-label.invariant.low);
        all = omega (arith, w.count-is, c.loop-label.invariant.all, ap length (from-next range labels c.loop-label.label next.some low (sym (c.may_put.ensures c.args.problem.now b next) ∙ w.if-may_put.false)));
      }
    ]

pub overflow_add-result : goal.overflow_add-result
overflow_add-result c =
    let problem = c.args.problem.now in
    let p = c.args.self.now in
    let b = c.requires in
    let next = c.next_alone-next.ensures problem b in
    let first =
    earlier_low (range_of problem p) (labels_of p) 0 c.first_option-first.result
    (c.first_option-first.ensures problem b next 0) in
    omega (arith, c.loop-label.invariant.low, first, b.classes, classes_few problem p b, few problem p b, b.within)

pub returns : goal.returns
returns c =
    let problem = c.args.problem.now in
    let p = c.args.self.now in
    let b = c.requires in
    let next = c.next_alone-next.ensures problem b in
    let first =
    earlier_low (range_of problem p) (labels_of p) 0 c.first_option-first.result
    (c.first_option-first.ensures problem b next 0) in
    let last : c.loop-label.label ≡ p.classes = omega (arith, first, b.classes, c.loop-label-test.false) in
    omega (
      arith,
      c.loop-label.invariant.all,
      ap (λ l. length (options_from (range_of problem p) (labels_of p) l)) last,
      ap length
          (from-here (range_of problem p) (labels_of p) p.classes next.some (omega (arith, b.classes))
          (new_legal problem p b next.some)),
      ap length (from-past (range_of problem p) (labels_of p) (p.classes + 1) (omega (arith, b.classes))),
    )

pub next_alone-next-requires : goal.next_alone-next-requires
next_alone-next-requires c =
    let problem = c.args.problem.now in
    let p = c.args.self.now in
    (problem, c.requires, omega (arith, counted problem p c.requires, long problem p c.requires, c.requires.within))
