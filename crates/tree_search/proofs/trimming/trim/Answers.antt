use Rattle.std.proofs.Common.{◌≡◌, ◌<◌, ◌^◌, ◌∷◌, [], sym, ap, ◌∙◌, arith, length}
use Rattle.std.proofs.lemmas.List.{nil_from_length}
use Rattle.std.specs.Vec.Iter.{into_iter_items}
use Rattle.grouping_tree.specs.Grouped.{labels_of, range_of}
use Rattle.tree_search.specs.Flat.{flat}
use Rattle.tree_search.specs.Trim.{reaches, trim}
use Rattle.tree_search.proofs.Trims.{trims-end, trims-start}
use Rattle.tree_search.proofs.trimming.trim.Goals as goal

pub loop-node-init : goal.loop-node-init
loop-node-init g c =
    let told = rw c.labels-base.ensures at c.in_ok-root.ensures in
    let nodes_are = sym c.into_iter-rest.ensures.rest ∙ c.in-Some.ensures.items in
    record {
      belongs = told.belongs;
      range = told.range;
      room = told.room;
      base = told.base;
      below = told.below;
      front = told.front;
      trims = λ wanted h.
          told.gives wanted (into_iter_items c.next.new.self) (rw c.new.ensures.items (rw nodes_are at h));
    }

pub take-requires-clause-trims : goal.take-requires-clause-trims
take-requires-clause-trims g c =
    let problem = c.args.problem.now in
    let items = range_of problem c.args.partial.now in
    let cut = reaches (g.J.Judge.bound_of c.args.judge.now problem items) c.args.value in
    let start = labels_of c.args.partial.now in
    let t = c.requires.tree.0 in
    let wanted = flat (trim items cut start t) in
    let inv = c.loop-node.invariant in
    let rest = into_iter_items c.next-in-loop-node.new.self in
    let at =
    inv.trims wanted (trims-start items cut c.args.nodes.items start t c.requires.tree.1
    c.requires.tree.2) in
    let left = c.next-in-loop-node.new.self.rest in
    let few : length rest < 2 ^ 64 = omega (arith, left.ok.0, left.small.0, left.small.1) in
    rw (inv.range, inv.base) (wanted, rest, few, rw c.in-Some-next.ensures.items at at)

pub loop-node-preserved : goal.loop-node-preserved
loop-node-preserved g c =
    let inv = c.loop-node.invariant in
    let told = rw (inv.range, inv.base) at c.in_ok-take.ensures in
    record {
      belongs = told.belongs;
      range = told.range;
      room = told.room ∙ inv.room;
      base = told.base;
      below = told.below;
      front = told.front ∙ inv.front;
      trims = λ wanted h.
          told.gives wanted (into_iter_items c.next-in-loop-node.new.self)
          (rw c.in-Some-next.ensures.items at (inv.trims wanted h));
    }

pub returns-clause-labels : goal.returns-clause-labels
returns-clause-labels g c =
    let told = rw c.labels-base.ensures at c.restore.ensures in
    told.labels ∙ c.loop-node.invariant.front

pub returns-clause-trimmed : goal.returns-clause-trimmed
returns-clause-trimmed g c = λ t flat_is options.
    let problem = c.args.problem.now in
    let items = range_of problem c.args.partial.now in
    let cut = reaches (g.J.Judge.bound_of c.args.judge.now problem items) c.args.value in
    let start = labels_of c.args.partial.now in
    let wanted = flat (trim items cut start t) in
    let inv = c.loop-node.invariant in
    let at = inv.trims wanted (trims-start items cut c.args.nodes.items start t flat_is options) in
    let over : c.loop-node.rest.rest.items ≡ [] =
    nil_from_length c.loop-node.rest.rest.items
    (sym c.loop-node.rest.rest.ok.0 ∙ c.in_default-next.ensures.cases.0) in
    trims-end items cut wanted c.loop-node.trimming.kept.items c.loop-node.trimming.skip _ (rw over at at)
