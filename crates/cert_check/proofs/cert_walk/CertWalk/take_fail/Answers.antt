use Rattle.cert_check.specs.Nodes.{fail_leaf}
use Rattle.cert_check.proofs.StoreLaws.{node_passed, node_stored}
use Rattle.cert_check.proofs.cert_walk.CertWalk.take_fail.Goals as goal

pub returns-then-not-self : goal.returns-then-not-self
returns-then-not-self c =
    node_stored c.args.problem.now c.args.self.now (fail_leaf c.args.named.now) c.if-not-self.true
    c.take_fail.new.self c.take_fail.ensures.walks c.take_fail.ensures.keeps c.take_fail.ensures.takes

pub returns-else-not-self : goal.returns-else-not-self
returns-else-not-self c =
    node_passed c.args.problem.now c.args.self.now (fail_leaf c.args.named.now) c.if-not-self.false
