use Rattle.std.proofs.Common.{◌∷◌, [], refl, ◌∙◌, append_assoc}
use Rattle.cert_text.specs.Lines.{line_text}
use Rattle.cert_text.specs.Nodes.{BeginsNode, node_line}
use Rattle.cert_text.specs.Sources.{TakesUntil}
use Rattle.cert_text.proofs.FeedLaws.{node_heard}
use Rattle.cert_text.proofs.feed.CertFeed.hear_node.Goals as goal

pub returns-clause-heard : goal.returns-clause-heard
returns-clause-heard c =
    let node = c.in_ok-node.node in
    let after = c.in_ok-node.after.now in
    let begins : BeginsNode c.args.self.now.source.left node after = rw c.ahead.ensures at c.in_ok-node.ensures in
    let takes : TakesUntil c.args.self.now.source c.take_until.new.self after =
    c.take_until.ensures (line_text (node_line node)) after (begins.text ∙ append_assoc (line_text (node_line node)) (10 ∷ []) after) refl in
    rw c.event.ensures (node_heard c.args.self.now _ node after c.requires.within begins takes refl (c.if-not-take_node.ensures.taken refl))
