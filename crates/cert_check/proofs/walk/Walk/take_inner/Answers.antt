use Rattle.std.proofs.Common.{◌++◌, ◌∷◌, List, ℕ, arith, ap, sym, ◌∙◌, refl, true, cond, [], length}
use Rattle.grouping_tree.specs.Walk.{places_below, places_left}
use Rattle.cert_check.specs.Nodes.{inner_node}
use Rattle.cert_check.specs.Places.{labels_at}
use Rattle.cert_check.specs.Walk.{StandsNext, items_of}
use Rattle.cert_check.proofs.Nexts.{denied, node_fails, node_taken, range_is, said, settled}
use Rattle.cert_check.proofs.walk.Walk.take_inner.Goals as goal

pub returns-then-not-inner_stands-clause-takes : goal.returns-then-not-inner_stands-clause-takes
returns-then-not-inner_stands-clause-takes c =
    let problem = c.args.problem.now in
    let there = c.settle.new.self in
    let node = inner_node c.args.subtrees in
    settled problem c.args.self.now there (record there { failed = true }) node c.settle.ensures.settles
    (node_fails problem there (record there { failed = true }) node
    (denied c.inner_stands.result (StandsNext problem there node) c.if-not-inner_stands.true c.inner_stands.ensures)
    refl)

pub returns-clause-takes : goal.returns-clause-takes
returns-clause-takes c =
    let problem = c.args.problem.now in
    let there = c.settle.new.self in
    let node = inner_node c.args.subtrees in
    let here : StandsNext problem there node =
    said c.inner_stands.result (StandsNext problem there node) c.if-not-inner_stands.false c.inner_stands.ensures in
    let range = range_is problem there c.settle.ensures.walks in
    let old : List ℕ = labels_at there.place in
    let new : List ℕ = labels_at c.enter.new.self in
    settled problem c.args.self.now there (record there { place = c.enter.new.self }) node c.settle.ensures.settles
    (node_taken problem there (record there { place = c.enter.new.self }) node here refl
    (ap (λ over. cond over [] (new ∷ places_left (items_of problem there) 0 new)) here.0.1
    ∙ ap (λ items. new ∷ places_left items 0 new) (sym (c.enter.ensures.over.range ∙ range))
    ∙ c.enter.ensures.places
    ∙ ap (λ items. places_below items old ++ places_left items 0 old) range)
    refl)

-- an item is left
pub enter-requires-clause-some : goal.enter-requires-clause-some
enter-requires-clause-some c =
    let problem = c.args.problem.now in
    let there = c.settle.new.self in
    let node = inner_node c.args.subtrees in
    let here : StandsNext problem there node =
    said c.inner_stands.result (StandsNext problem there node) c.if-not-inner_stands.false c.inner_stands.ensures in
    omega (arith, here.1.0, ap length (range_is problem there c.settle.ensures.walks))
