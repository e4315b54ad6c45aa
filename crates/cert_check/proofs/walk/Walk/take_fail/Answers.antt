use Rattle.std.proofs.Common.{refl, true}
use Rattle.cert_check.specs.Nodes.{fail_leaf}
use Rattle.cert_check.specs.Walk.{StandsNext}
use Rattle.cert_check.proofs.Nexts.{denied, keeps_on, node_fails, node_taken, said, settled}
use Rattle.cert_check.proofs.walk.Walk.take_fail.Goals as goal

pub returns-then-not-fail_stands-clause-takes : goal.returns-then-not-fail_stands-clause-takes
returns-then-not-fail_stands-clause-takes c =
    let problem = c.args.problem.now in
    let there = c.settle.new.self in
    let node = fail_leaf c.args.named.now in
    settled problem c.args.self.now there (record there { failed = true }) node c.settle.ensures.settles
    (node_fails problem there (record there { failed = true }) node
    (denied c.fail_stands.result (StandsNext problem there node) c.if-not-fail_stands.true c.fail_stands.ensures)
    refl)

pub returns-clause-takes : goal.returns-clause-takes
returns-clause-takes c =
    let problem = c.args.problem.now in
    let there = c.settle.new.self in
    let node = fail_leaf c.args.named.now in
    let passes = c.pass.ensures.passes in
    settled problem c.args.self.now there c.pass.new.self node c.settle.ensures.settles
    (node_taken problem there c.pass.new.self node
    (said c.fail_stands.result (StandsNext problem there node) c.if-not-fail_stands.false c.fail_stands.ensures)
    passes.failed passes.places passes.least)

pub returns-clause-keeps : goal.returns-clause-keeps
returns-clause-keeps c =
    keeps_on c.args.self.now c.settle.new.self c.pass.new.self c.settle.ensures.settles.keeps c.pass.ensures.keeps
