use Rattle.std.proofs.Common.{refl, true}
use Rattle.cert_check.specs.Nodes.{bound_leaf}
use Rattle.cert_check.specs.Walk.{StandsNext}
use Rattle.cert_check.proofs.Nexts.{denied, node_fails, node_taken, said}
use Rattle.cert_check.proofs.walk.Walk.take_bound.Goals as goal

pub returns-then-not-bound_stands-clause-takes : goal.returns-then-not-bound_stands-clause-takes
returns-then-not-bound_stands-clause-takes c =
    node_fails c.args.problem.now c.args.self.now
    (record c.args.self.now { failed = true }) bound_leaf
    (denied c.bound_stands.result
    (StandsNext c.args.problem.now c.args.self.now bound_leaf) c.if-not-bound_stands.true
    c.bound_stands.ensures) refl

pub returns-clause-takes : goal.returns-clause-takes
returns-clause-takes c =
    node_taken c.args.problem.now c.args.self.now c.pass.new.self bound_leaf
    (said c.bound_stands.result
    (StandsNext c.args.problem.now c.args.self.now bound_leaf) c.if-not-bound_stands.false
    c.bound_stands.ensures)
    c.pass.ensures.passes.failed c.pass.ensures.passes.places c.pass.ensures.passes.least
