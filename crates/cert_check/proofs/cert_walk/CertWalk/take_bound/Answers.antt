use Rattle.cert_check.specs.Nodes.{bound_leaf}
use Rattle.cert_check.proofs.StoreLaws.{node_passed, node_stored}
use Rattle.cert_check.proofs.cert_walk.CertWalk.take_bound.Goals as goal

pub returns-then-not-self : goal.returns-then-not-self
returns-then-not-self c =
    node_stored c.args.problem.now c.args.self.now bound_leaf c.if-not-self.true
    c.take_bound.new.self c.take_bound.ensures.walks c.take_bound.ensures.keeps c.take_bound.ensures.takes

pub returns-else-not-self : goal.returns-else-not-self
returns-else-not-self c =
    node_passed c.args.problem.now c.args.self.now bound_leaf c.if-not-self.false
