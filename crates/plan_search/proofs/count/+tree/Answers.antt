use Rattle.std.proofs.Common.{arith, ap, ◌∙◌, map}
use Rattle.std.proofs.lemmas.List.{take_all}
use Rattle.cert_text.specs.PlainTree.{onto, plain_of}
use Rattle.cert_text.specs.Trees.{none}
use Rattle.cert_text.proofs.Trees.{plain-Bound, plain-Fail, plain-Inner, plain-Left}
use Rattle.tree_search.specs.Open.{nodes_in, nodes_of}
use Rattle.plan_search.proofs.Counting.{nodes-more}
use Rattle.plan_search.proofs.count.+tree.Goals as goal

pub count_each-loop-tree-preserved : goal.count_each-loop-tree-preserved
count_each-loop-tree-preserved t c =
    omega (
      arith,
      c.loop-tree.invariant,
      nodes-more c.deref-tree-items.result.now c.loop-tree.tree-index c.tree-item.result c.loop-tree-test.true
          c.tree-item.is,
      c.count_nodes.ensures,
      c.saturating_add-count.ensures,
    )

pub count_each-returns : goal.count_each-returns
count_each-returns t c =
    omega (
      arith,
      c.loop-tree.invariant,
      ap (λ ts. nodes_in (onto (map plain_of ts) none))
          (take_all c.loop-tree.tree-index c.deref-tree-items.result.now c.loop-tree-test.false
          ∙ c.deref-tree-items.ensures.value),
    )

pub count_nodes-returns-in-Inner : goal.count_nodes-returns-in-Inner
count_nodes-returns-in-Inner t c =
    omega (
      arith,
      ap nodes_of (ap plain_of c.in-Inner.is ∙ plain-Inner c.in-Inner.trees),
      c.count_each.ensures,
    )

pub count_nodes-returns-in-Bound : goal.count_nodes-returns-in-Bound
count_nodes-returns-in-Bound t c = omega (arith, ap nodes_of (ap plain_of c.in-Bound.is ∙ plain-Bound))

pub count_nodes-returns-in-Left : goal.count_nodes-returns-in-Left
count_nodes-returns-in-Left t c = omega (arith, ap nodes_of (ap plain_of c.in-Left.is ∙ plain-Left))

pub count_nodes-returns-in-Fail : goal.count_nodes-returns-in-Fail
count_nodes-returns-in-Fail t c =
    omega (arith, ap nodes_of (ap plain_of c.in-Fail.is ∙ plain-Fail c.in-Fail.field-0))
