use Rattle.std.proofs.Common.{◌≡◌, length}
use Rattle.cert_text.specs.PlainTree.{plain_of}
use Rattle.cert_text.specs.Making.{put_tree}
use Rattle.cert_text.specs.MadeBy.{made_by, nodes_of}
use Rattle.cert_text.proofs.builder.Builder.put.Given as goal

-- nodes were ended alone, and what is left to put makes the same
abbrev pub invariant-loop-node : goal.invariant-loop-node
invariant-loop-node l = record {
  others : l.self ≡ record l.fn.self { nodes = l.self.nodes };
  same : put_tree (plain_of l.tree) (nodes_of l.self.nodes.items) (made_by l.fn.self) ≡ put_tree (plain_of l.fn.tree) (nodes_of l.fn.self.nodes.items) (made_by l.fn.self);
}

abbrev pub decreases-loop-node : goal.decreases-loop-node
decreases-loop-node l = length l.self.nodes.items
