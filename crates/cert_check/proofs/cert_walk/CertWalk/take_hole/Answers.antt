use Rattle.cert_check.specs.Nodes.{hole}
use Rattle.cert_check.proofs.StoreLaws.{node_passed, node_stored}
use Rattle.cert_check.proofs.cert_walk.CertWalk.take_hole.Goals as goal

pub returns-then-not-self : goal.returns-then-not-self
returns-then-not-self c = λ tree.
    node_stored c.args.problem.now c.args.self.now (hole tree) c.if-not-self.true
    c.take_hole.new.self c.take_hole.ensures.walks c.take_hole.ensures.keeps (c.take_hole.ensures.takes tree)

pub returns-else-not-self : goal.returns-else-not-self
returns-else-not-self c = λ tree.
    node_passed c.args.problem.now c.args.self.now (hole tree) c.if-not-self.false
