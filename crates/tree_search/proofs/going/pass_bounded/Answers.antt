use Rattle.std.proofs.Common.{◌≡◌, [], ◌∷◌, length, length-append, true, refl, ap, arith}
use Rattle.grouping_tree.specs.Grouped.{labels_of, range_of}
use Rattle.grouping_tree.proofs.Used.{classes_few, few, put_room}
use Rattle.tree_search.specs.declared.node.Node.TheVariants.{Bound}
use Rattle.tree_search.proofs.Goings.{passed-all, passed-more, passed-to}
use Rattle.tree_search.proofs.going.pass_bounded.Goals as goal

pub overflow_add-next : goal.overflow_add-next
overflow_add-next g c =
    let problem = c.args.problem.now in
    let p = c.args.partial.now in
    let b = c.requires.belongs in
    omega (
      arith,
      (put_room problem p c.in-Some.label b c.in-Some.ensures.legal).1,
      classes_few problem p b,
      few problem p b,
      b.within,
    )

pub loop-label-init : goal.loop-label-init
loop-label-init g c = record {
  within = omega arith;
  count = omega arith;
  gives = λ start base found x h. (x, refl, h);
}

pub loop-label-preserved : goal.loop-label-preserved
loop-label-preserved g c =
    let problem = c.args.problem.now in
    let items = range_of problem c.args.partial.now in
    let labels = labels_of c.args.partial.now in
    let inv = c.loop-label.invariant in
    let is_bounded : c.is_bounded.result ≡ true = c.if-not-is_bounded.false in
    record {
      within = omega arith;
      count = omega (arith, inv.count, ap length c.in_ok-put_node.ensures, length-append c.loop-label.nodes.items (Bound ∷ []));
      gives = λ start base found x h.
          passed-more (g.J.Judge.finds c.args.judge.now problem items) items start labels base c.args.best found
          c.loop-label.nodes.items c.put_node.new.nodes.items c.loop-label.next c.in-Some.label c.loop-label.made x
          c.in-Some.ensures.option (c.is_bounded.ensures is_bounded) c.in_ok-put_node.ensures
          (inv.gives start base found x h);
    }

pub returns-then-made-steps-clause-gives : goal.returns-then-made-steps-clause-gives
returns-then-made-steps-clause-gives g c = λ start base found x le h.
    let problem = c.args.problem.now in
    let items = range_of problem c.args.partial.now in
    let labels = labels_of c.args.partial.now in
    let gives = c.loop-label.invariant.gives start base found x h in (
      gives.0,
      gives.1,
      passed-to (g.J.Judge.finds c.args.judge.now problem items) items start labels base c.args.best found
          c.loop-label.nodes.items c.loop-label.next c.in-Some.label gives.0 c.in-Some.ensures.option le gives.2,
    )

pub returns-clause-gives : goal.returns-clause-gives
returns-clause-gives g c = λ start base found x le h.
    let problem = c.args.problem.now in
    let items = range_of problem c.args.partial.now in
    let labels = labels_of c.args.partial.now in
    let gives = c.loop-label.invariant.gives start base found x h in (
      gives.0,
      gives.1,
      passed-all (g.J.Judge.finds c.args.judge.now problem items) items start labels base c.args.best found
          c.loop-label.nodes.items c.loop-label.next gives.0 c.in_default.ensures.option gives.2,
    )
