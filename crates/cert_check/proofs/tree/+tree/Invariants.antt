use Rattle.std.proofs.Common.{◌∷◌, length, take}
use Rattle.std.specs.List.{flat_map}
use Rattle.cert_text.specs.PlainTree.{plain_of}
use Rattle.cert_check.specs.Nodes.{Takes, inner_node, nodes_of}
use Rattle.cert_check.specs.Walk.{IsWalk, Keeps, goal_in, way_of}
use Rattle.cert_check.proofs.tree.+tree.Given as goal

-- the inner node and the subtrees so far were taken
abbrev pub invariant-take_subtrees-loop-subtree : goal.invariant-take_subtrees-loop-subtree
invariant-take_subtrees-loop-subtree l = record {
  walks : IsWalk l.problem l.walk;
  keeps : Keeps l.fn.walk l.walk;
  takes : Takes (goal_in l.problem l.fn.walk) (way_of l.problem l.fn.walk) (way_of l.problem l.walk)
      (inner_node (length l.subtree-items) ∷ flat_map (λ t. nodes_of (plain_of t))
      (take l.subtree-index l.subtree-items));
}
