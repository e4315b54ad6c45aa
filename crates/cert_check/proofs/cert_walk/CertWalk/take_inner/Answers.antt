use Rattle.cert_check.specs.Nodes.{inner_node}
use Rattle.cert_check.proofs.StoreLaws.{node_passed, node_stored}
use Rattle.cert_check.proofs.cert_walk.CertWalk.take_inner.Goals as goal

pub returns-then-not-self : goal.returns-then-not-self
returns-then-not-self c =
    node_stored c.args.problem.now c.args.self.now (inner_node c.args.subtrees) c.if-not-self.true
    c.take_inner.new.self c.take_inner.ensures.walks c.take_inner.ensures.keeps c.take_inner.ensures.takes

pub returns-else-not-self : goal.returns-else-not-self
returns-else-not-self c =
    node_passed c.args.problem.now c.args.self.now (inner_node c.args.subtrees) c.if-not-self.false
