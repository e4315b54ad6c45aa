use Rattle.std.proofs.Common.{◌≡◌, ◌-◌, length, refl, arith}
use Rattle.par_check.proofs.Gatherings.{none_open, part_last, part_more}
use Rattle.par_check.proofs.gathering.Gathering.put.Goals as goal

pub returns-then-node-gt0 : goal.returns-then-node-gt0
returns-then-node-gt0 c =
    part_more c.loop-node.self.nodes.items c.pop.new.self.items c.push-then-node-gt0.new.self.items c.in-Some.node
    (record { lacking = c.in-Some.node.lacking - 1; subtrees = c.push.new.self }) c.loop-node.tree _
    c.in-Some.ensures.items c.if-node-gt0.true refl c.in_ok-push.ensures.items c.in_ok-push-2.ensures.items
    c.loop-node.invariant

pub loop-node-preserved : goal.loop-node-preserved
loop-node-preserved c =
    let none : c.in-Some.node.lacking ≡ 0 = omega arith in
    part_last c.loop-node.self.nodes.items c.pop.new.self.items c.in-Some.node c.loop-node.tree c.push.new.self _
    c.in-Some.ensures.items none c.in_ok-push.ensures.items c.loop-node.invariant

pub returns : goal.returns
returns c =
    let none : length c.loop-node.self.nodes.items ≡ 0 = grind (arith, c.in_default.ensures.cases) in
    none_open c.loop-node.self.nodes.items c.loop-node.tree _ none c.loop-node.invariant
