use Rattle.std.proofs.Common.{map, Some, sym, ap, ◌∙◌, append-nil, arith}
use Rattle.grouping_tree.specs.Grouped.{labels_of, range_of}
use Rattle.grouping_tree.specs.Walk.{places_left}
use Rattle.tree_search.specs.Open.{least_with}
use Rattle.tree_search.specs.Shown.{agenda}
use Rattle.tree_search.proofs.Leasts.{least-end, least-more}
use Rattle.tree_search.proofs.Moves.{left-agenda, left-below, open-more}
use Rattle.tree_search.proofs.search.leave_open.Goals as goal

pub lower8-requires-clause-suits : goal.lower8-requires-clause-suits
lower8-requires-clause-suits g c = rw c.loop-more.invariant.range c.requires.suits

pub loop-more-preserved : goal.loop-more-preserved
loop-more-preserved g c =
    let inv = c.loop-more.invariant in
    let told = c.leave-more.ensures in
    let problem = c.args.problem.now in
    let old = labels_of c.loop-more.partial in
    let new = labels_of c.leave-more.new.self in
    let items = range_of problem c.args.partial.now in
    let bound_of = g.J.Judge.bound_of c.args.judge.now problem items in
    let rest =
    left-agenda (range_of problem c.loop-more.partial)
    (range_of problem c.leave-more.new.self) c.args.base old new c.leave-more.result told.range told.next
    told.none in
    record {
      belongs = told.belongs;
      range = told.range ∙ inv.range;
      below = left-below c.args.base old new c.leave-more.result inv.below told.next told.none;
      nodes =
          open-more c.loop-more.nodes.items c.push.new.self.items old (places_left items c.args.base old)
          (agenda items c.args.base new c.leave-more.result)
          c.in_ok-push.ensures.items (rw inv.range at rest)
          ∙ rw c.loop-more-test.true at inv.nodes;
      least =
          ap (λ places. least_with (Some c.lesser.result) (map bound_of places)) (rw inv.range at rest)
          ∙ least-more c.loop-more.least (bound_of old) c.lesser.result
          (map bound_of (places_left items c.args.base old)) (rw (rw inv.range at c.lower8.ensures) at c.lesser.ensures)
          ∙ rw c.loop-more-test.true at inv.least;
    }

pub loop-more-smaller : goal.loop-more-smaller
loop-more-smaller g c =
    let told = c.leave-more.ensures in
    let problem = c.args.problem.now in
    let before = range_of problem c.loop-more.partial in
    let old = labels_of c.loop-more.partial in
    let new = labels_of c.leave-more.new.self in
    let rest =
    left-agenda before (range_of problem c.leave-more.new.self) c.args.base old new c.leave-more.result
    told.range told.next told.none in
    rw (told.range, rest, c.loop-more-test.true) (omega arith)

pub returns-clause-nodes : goal.returns-clause-nodes
returns-clause-nodes g c = sym (append-nil c.loop-more.nodes.items)
    ∙ rw c.loop-more-test.false at c.loop-more.invariant.nodes

pub returns-clause-least : goal.returns-clause-least
returns-clause-least g c = sym (least-end c.loop-more.least)
    ∙ rw c.loop-more-test.false at c.loop-more.invariant.least
