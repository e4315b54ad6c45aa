use Rattle.std.proofs.Common.{◌≡◌, arith, ◌∷◌, ◌++◌, [], List, take, ap, sym, subst, ◌∙◌, length}
use Rattle.std.proofs.lemmas.List.{take_all}
use Rattle.std.specs.List.{flat_map}
use Rattle.cert_text.specs.declared.parts.Tree.{Tree}
use Rattle.cert_text.specs.PlainTree.{plain_of}
use Rattle.cert_check.specs.Nodes.{Node, Takes, fail_leaf, inner_node, nodes_of}
use Rattle.cert_check.specs.Walk.{goal_in, way_of}
use Rattle.cert_text.proofs.Trees.{plain-Bound, plain-Fail, plain-Inner, plain-Left}
use Rattle.cert_check.proofs.Nexts.{keeps_on, same_goal}
use Rattle.cert_check.proofs.Walks.{nodes_of_bound, nodes_of_fail, nodes_of_inner, nodes_of_left, more_nodes, takes_append}
use Rattle.cert_check.proofs.tree.+tree.Goals as goal

-- the nodes of a tree
abbrev nodes : Tree → List Node
nodes x = nodes_of (plain_of x)

pub take_subtrees-loop-subtree-init : goal.take_subtrees-loop-subtree-init
take_subtrees-loop-subtree-init t c =
    let many : c.len.result ≡ length c.deref-subtree-items.result.now =
    omega (arith, c.len.ensures, c.deref-subtree-items.ensures.len) in record {
      walks = c.take_inner.ensures.walks;
      keeps = c.take_inner.ensures.keeps;
      takes = subst (λ n. Takes (goal_in c.args.problem.now c.args.walk.now)
          (way_of c.args.problem.now c.args.walk.now) (way_of c.args.problem.now c.take_inner.new.self)
          (inner_node n ∷ [])) many c.take_inner.ensures.takes;
    }

pub take_subtrees-loop-subtree-preserved : goal.take_subtrees-loop-subtree-preserved
take_subtrees-loop-subtree-preserved t c =
    let items : List Tree = c.deref-subtree-items.result.now in
    let first : List Node = inner_node (length items) ∷ [] in record {
      walks = c.take_tree.ensures.walks;
      keeps = keeps_on c.args.walk.now c.loop-subtree.walk c.take_tree.new.walk c.loop-subtree.invariant.keeps
          c.take_tree.ensures.keeps;
      takes =
          subst (Takes (goal_in c.args.problem.now c.args.walk.now) (way_of c.args.problem.now c.args.walk.now)
          (way_of c.args.problem.now c.take_tree.new.walk))
          (more_nodes nodes first items c.loop-subtree.subtree-index c.subtree-item.result c.loop-subtree-test.true
          c.subtree-item.is)
          (takes_append (goal_in c.args.problem.now c.args.walk.now) (way_of c.args.problem.now c.args.walk.now)
          (way_of c.args.problem.now c.loop-subtree.walk) (way_of c.args.problem.now c.take_tree.new.walk)
          (first ++ flat_map nodes (take c.loop-subtree.subtree-index items)) (nodes c.subtree-item.result)
          c.loop-subtree.invariant.takes
          (same_goal c.args.problem.now c.args.walk.now c.loop-subtree.walk c.loop-subtree.invariant.keeps
          (λ g. Takes g (way_of c.args.problem.now c.loop-subtree.walk)
          (way_of c.args.problem.now c.take_tree.new.walk) (nodes_of (plain_of c.subtree-item.result)))
          c.take_tree.ensures.takes));
    }

pub take_subtrees-returns-clause-takes : goal.take_subtrees-returns-clause-takes
take_subtrees-returns-clause-takes t c =
    let items : List Tree = c.deref-subtree-items.result.now in
    subst (Takes (goal_in c.args.problem.now c.args.walk.now) (way_of c.args.problem.now c.args.walk.now)
    (way_of c.args.problem.now c.loop-subtree.walk))
    (ap (λ xs. inner_node (length items) ∷ flat_map nodes xs)
    (take_all c.loop-subtree.subtree-index items c.loop-subtree-test.false)
    ∙ ap (λ xs. inner_node (length xs) ∷ flat_map nodes xs) c.deref-subtree-items.ensures.value
    ∙ sym (nodes_of_inner plain_of c.args.subtrees.now.items))
    c.loop-subtree.invariant.takes

pub take_tree-returns-in-Inner-clause-takes : goal.take_tree-returns-in-Inner-clause-takes
take_tree-returns-in-Inner-clause-takes t c =
    subst (λ p. Takes (goal_in c.args.problem.now c.args.walk.now) (way_of c.args.problem.now c.args.walk.now)
    (way_of c.args.problem.now c.take_subtrees.new.walk) (nodes_of p))
    (sym (ap plain_of c.in-Inner.is ∙ plain-Inner c.in-Inner.subtrees)) c.take_subtrees.ensures.takes

pub take_tree-returns-in-Bound-clause-takes : goal.take_tree-returns-in-Bound-clause-takes
take_tree-returns-in-Bound-clause-takes t c =
    subst (Takes (goal_in c.args.problem.now c.args.walk.now) (way_of c.args.problem.now c.args.walk.now)
    (way_of c.args.problem.now c.take_bound.new.self))
    (sym (ap (λ x. nodes_of (plain_of x)) c.in-Bound.is ∙ ap nodes_of plain-Bound ∙ nodes_of_bound))
    c.take_bound.ensures.takes

pub take_tree-returns-in-Left-clause-takes : goal.take_tree-returns-in-Left-clause-takes
take_tree-returns-in-Left-clause-takes t c =
    subst (Takes (goal_in c.args.problem.now c.args.walk.now) (way_of c.args.problem.now c.args.walk.now)
    (way_of c.args.problem.now c.take_open.new.self))
    (sym (ap (λ x. nodes_of (plain_of x)) c.in-Left.is ∙ ap nodes_of plain-Left ∙ nodes_of_left))
    c.take_open.ensures.takes

pub take_tree-returns-in-Fail-clause-takes : goal.take_tree-returns-in-Fail-clause-takes
take_tree-returns-in-Fail-clause-takes t c =
    subst (Takes (goal_in c.args.problem.now c.args.walk.now) (way_of c.args.problem.now c.args.walk.now)
    (way_of c.args.problem.now c.take_fail.new.self))
    (ap (λ named. fail_leaf named ∷ []) c.as_slice.ensures
    ∙ sym (ap (λ x. nodes_of (plain_of x)) c.in-Fail.is ∙ ap nodes_of (plain-Fail c.in-Fail.refuted)
    ∙ nodes_of_fail c.in-Fail.refuted))
    c.take_fail.ensures.takes
