use Rattle.std.proofs.Common.{◌≡◌, ◌<◌, ◌+◌, suc, length, get_or, sym, ◌∙◌, arith, ap}
use Rattle.class_frame.specs.Grouping.{classes_of}
use Rattle.grouping_tree.specs.Grouped.{labels_of, range_of}
use Rattle.grouping_tree.specs.Walk.{options_from}
use Rattle.grouping_tree.proofs.Earlier.{all-earlier, earlier_low}
use Rattle.grouping_tree.proofs.Used.{new_legal}
use Rattle.grouping_tree.proofs.Walks.{from-here, from-next, from-past, option_left}
use Rattle.grouping_tree.proofs.partial.Partial.option.Goals.{then-may_put+else-before-eq0, else-may_put}
use Rattle.grouping_tree.proofs.partial.Partial.option.Goals as goal

pub loop-label-init : goal.loop-label-init
loop-label-init c =
    let problem = c.args.problem.now in
    let p = c.args.self.now in
    let next = c.next_alone-next.ensures problem c.requires.belongs in
    let all =
    all-earlier (range_of problem p) (labels_of p) 0 c.first_option-first.result next.some
    (c.first_option-first.ensures problem c.requires.belongs next 0) in
    record {
      below = omega (arith, ap length all, c.requires.below);
      same = ap (λ ls. get_or ls c.args.k 0) all;
    }

pub first_option-first-requires : goal.first_option-first-requires
first_option-first-requires c =
    (c.args.problem.now, c.requires.belongs, c.next_alone-next.ensures c.args.problem.now c.requires.belongs)

pub returns-then-before-eq0 : goal.returns-then-before-eq0
returns-then-before-eq0 c =
    let b = c.requires.belongs in
    let range = range_of c.args.problem.now c.args.self.now in
    let labels = labels_of c.args.self.now in
    let next = c.next_alone-next.ensures c.args.problem.now b in
    let low : c.loop-label.label < classes_of labels + 1 = omega (arith, b.classes, c.loop-label-test.true) in
    let here = from-here range labels c.loop-label.label next.some low (sym (c.may_put.ensures c.args.problem.now b next) ∙ c.if-may_put.true) in
    sym (c.loop-label.invariant.same ∙ ap (λ k. get_or (options_from range labels c.loop-label.label) k 0) c.if-before-eq0.true ∙ ap (λ ls. get_or ls 0 0) here)

pub loop-label-preserved : goal.loop-label-preserved
loop-label-preserved c =
    let b = c.requires.belongs in
    let range = range_of c.args.problem.now c.args.self.now in
    let labels = labels_of c.args.self.now in
    let next = c.next_alone-next.ensures c.args.problem.now b in
    let low : c.loop-label.label < classes_of labels + 1 = omega (arith, b.classes, c.loop-label-test.true) in
    elim c.if-may_put.branch [
      | then-may_put+else-before-eq0 w ↦
          let here = from-here range labels c.loop-label.label next.some low (sym (c.may_put.ensures c.args.problem.now b next) ∙ w.if-may_put.true) in
          let step : c.loop-label.before ≡ suc c.if-may_put.before = omega (arith, w.before-is, w.if-before-eq0.false) in
          record {
            below = omega (arith, step, ap length here, c.loop-label.invariant.below);
            same = c.loop-label.invariant.same ∙ ap (λ k. get_or (options_from range labels c.loop-label.label) k 0) step ∙ ap (λ ls. get_or ls (suc c.if-may_put.before) 0) here;
          }
      | else-may_put w ↦
          let here = from-next range labels c.loop-label.label next.some low (sym (c.may_put.ensures c.args.problem.now b next) ∙ w.if-may_put.false) in
          record {
            below = omega (arith, w.before-is, ap length here, c.loop-label.invariant.below);
            same = c.loop-label.invariant.same ∙ ap (λ k. get_or (options_from range labels c.loop-label.label) k 0) (sym w.before-is) ∙ ap (λ ls. get_or ls c.if-may_put.before 0) here;
          }
    ]

pub next_alone-next-requires : goal.next_alone-next-requires
next_alone-next-requires c =
    (c.args.problem.now, c.requires.belongs, option_left (range_of c.args.problem.now c.args.self.now) (labels_of c.args.self.now) c.args.k c.requires.below)

pub returns : goal.returns
returns c =
    let problem = c.args.problem.now in
    let p = c.args.self.now in
    let range = range_of problem p in
    let labels = labels_of p in
    let b = c.requires.belongs in
    let next = c.next_alone-next.ensures problem b in
    let low = earlier_low range labels 0 c.first_option-first.result (c.first_option-first.ensures problem b next 0) in
    let last : c.loop-label.label ≡ p.classes = omega (arith, low, b.classes, c.loop-label-test.false) in
    let here =
    ap (options_from range labels) last
    ∙ from-here range labels p.classes next.some (omega (arith, b.classes)) (new_legal problem p b next.some) in
    let none = from-past range labels (p.classes + 1) (omega (arith, b.classes)) in
    let first : c.loop-label.before ≡ 0 =
    omega (arith, c.loop-label.invariant.below, ap length here, ap length none) in
    sym (c.loop-label.invariant.same
    ∙ ap (λ k. get_or (options_from range labels c.loop-label.label) k 0) first ∙ ap (λ ls. get_or ls 0 0) here)
