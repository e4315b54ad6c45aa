use Rattle.cert_check.specs.Nodes.{open_leaf}
use Rattle.cert_check.proofs.StoreLaws.{node_passed, node_stored}
use Rattle.cert_check.proofs.cert_walk.CertWalk.take_open.Goals as goal

pub returns-then-not-self : goal.returns-then-not-self
returns-then-not-self c =
    node_stored c.args.problem.now c.args.self.now open_leaf c.if-not-self.true
    c.take_open.new.self c.take_open.ensures.walks c.take_open.ensures.keeps c.take_open.ensures.takes

pub returns-else-not-self : goal.returns-else-not-self
returns-else-not-self c =
    node_passed c.args.problem.now c.args.self.now open_leaf c.if-not-self.false
