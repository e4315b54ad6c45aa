use Rattle.grouping_tree.specs.Grouped.{labels_of}
use Rattle.grouping_tree.specs.Walk.{places_left}
use Rattle.tree_search.specs.Shown.{items_of, start_of}
use Rattle.tree_search.specs.Step.{after}
use Rattle.tree_search.proofs.Steps.{held-open, held-step, steps-back, steps-one_first}
use Rattle.tree_search.proofs.search.Search.step.Goals as goal

pub returns-clause-gives : goal.returns-clause-gives
returns-clause-gives g c = λ x at.
    let problem = c.args.problem.now in
    let old = c.args.self.now in
    let items = items_of problem old in
    let p = labels_of old.partial in
    let here = c.settle.new.self in
    let on = c.in_ok-from.ensures.goes_on in
    let finding = c.in_ok-finding.finding in
    let passed = c.in_ok-passed.passed in
    let y = after items p finding x in
    let rest = c.in_ok-passed.ensures.gives y (c.in_ok-from.ensures.gives x at) in (
      rest.0,
      steps-one_first (g.J.Judge.finds c.args.judge.now problem items) items (start_of old) passed x y rest.0
          (held-step (g.J.Judge.finds c.args.judge.now problem items) items (start_of old) old.nodes.items p
          (places_left items old.base p) finding old.best old.found x
          (held-open problem old x at c.requires.open) c.in_ok-finding.ensures.found)
          (steps-back (g.J.Judge.finds c.find.new.self problem) (g.J.Judge.finds c.args.judge.now problem)
          items (items_of problem here) (start_of old) (start_of here) passed y rest.0 on.items on.start
          (c.find.ensures.same problem items) rest.1),
      rest.2,
    )
