use Rattle.cert_text.specs.PlainTree.{plain_of}
use Rattle.cert_check.specs.Nodes.{nodes_of}
use Rattle.cert_check.proofs.StoreLaws.{nodes_stored, none_stored}
use Rattle.cert_check.proofs.cert_walk.CertWalk.take_tree.Goals as goal

pub returns-then-not-self : goal.returns-then-not-self
returns-then-not-self c =
    nodes_stored c.args.problem.now c.args.self.now (nodes_of (plain_of c.args.tree.now)) c.if-not-self.true
    c.take_tree.new.walk c.take_tree.ensures.walks c.take_tree.ensures.keeps c.take_tree.ensures.takes

pub returns-else-not-self : goal.returns-else-not-self
returns-else-not-self c =
    none_stored c.args.problem.now c.args.self.now (nodes_of (plain_of c.args.tree.now)) c.if-not-self.false
