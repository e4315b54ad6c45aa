use Rattle.std.proofs.Common.{◌≡◌, ◌++◌, ◌∙◌, [], List, ap, refl, sym, arith, map}
use Rattle.std.proofs.lemmas.List.{nil_from_length}
use Rattle.cert_text.specs.PlainTree.{plain_of}
use Rattle.cert_text.proofs.Trees.{plain-Bound, plain-Fail, plain-Left}
use Rattle.tree_search.specs.declared.node.Node.{Node}
use Rattle.tree_search.proofs.Builds.{took-all, took-bound, took-fail, took-inner, took-left, took-more, took-none, took-pushed}
use Rattle.tree_search.proofs.tree.+take.Goals as goal

pub take_tree-returns-in_ok-trees-in-Some-Inner-clause-first :
    goal.take_tree-returns-in_ok-trees-in-Some-Inner-clause-first
take_tree-returns-in_ok-trees-in-Some-Inner-clause-first t c = λ tree rest is.
    took-inner tree _ _ _ rest c.in-Some-Inner.count c.in_ok-trees-in-Some-Inner.trees
    (rw c.in-Some-Inner.field-0-is at c.in-Some-Inner.ensures.cases.0) c.in_ok-trees-in-Some-Inner.ensures.firsts is

pub take_tree-returns-in-Some-Bound-clause-first : goal.take_tree-returns-in-Some-Bound-clause-first
take_tree-returns-in-Some-Bound-clause-first t c = λ tree rest is.
    rw plain-Bound (took-bound tree _ _ rest (rw c.in-Some-Bound.field-0-is at c.in-Some-Bound.ensures.cases.0) is)

pub take_tree-returns-in-Some-Left-clause-first : goal.take_tree-returns-in-Some-Left-clause-first
take_tree-returns-in-Some-Left-clause-first t c = λ tree rest is.
    rw plain-Left (took-left tree _ _ rest (rw c.in-Some-Left.field-0-is at c.in-Some-Left.ensures.cases.0) is)

pub take_tree-returns-in-Some-Fail-clause-first : goal.take_tree-returns-in-Some-Fail-clause-first
take_tree-returns-in-Some-Fail-clause-first t c = λ tree rest is.
    rw (plain-Fail c.in-Some-Fail.refuted)
    (took-fail tree _ _ rest c.in-Some-Fail.refuted (rw c.in-Some-Fail.field-0-is at c.in-Some-Fail.ensures.cases.0) is)

pub take_tree-returns-in-None-clause-first : goal.take_tree-returns-in-None-clause-first
take_tree-returns-in-None-clause-first t c = λ tree rest is.
    let over : c.next.new.self.rest.items ≡ [] =
    nil_from_length c.next.new.self.rest.items (sym c.next.new.self.rest.ok.0 ∙ c.in-None.ensures.cases.1) in
    absurd (took-none tree _ rest (c.in-None.ensures.items ∙ over) is)

pub take_trees-loop-k-init : goal.take_trees-loop-k-init
take_trees-loop-k-init t c = record {
  fewer = omega arith;
  count_is = c.in_ok-trees.ensures.len;
  room = c.in_ok-trees.ensures.exact;
  took = λ ts rest many is. (ap (map plain_of) c.in_ok-trees.ensures.items, is);
}

pub take_trees-push_reserved-requires : goal.take_trees-push_reserved-requires
take_trees-push_reserved-requires t c =
    omega (arith, c.loop-k.invariant.count_is, c.loop-k.invariant.room, c.loop-k-test.true)

pub take_trees-loop-k-preserved : goal.take_trees-loop-k-preserved
take_trees-loop-k-preserved t c = record {
  fewer = omega (arith, c.take_tree.ensures.fewer, c.loop-k.invariant.fewer);
  count_is = omega (arith, c.push_reserved.ensures.len, c.loop-k.invariant.count_is);
  room = c.push_reserved.ensures.capacity ∙ c.loop-k.invariant.room;
  took = λ ts rest many is.
      let so_far = c.loop-k.invariant.took ts rest many is in
      let both =
      took-more ts (map plain_of c.loop-k.trees.items) c.loop-k._k (plain_of c.in_ok-tree.tree) _ _ rest
      (omega (arith, c.loop-k-test.true)) so_far.0 so_far.1 c.in_ok-tree.ensures.first in (
        took-pushed ts c.loop-k.trees.items c.push_reserved.new.self.items c.loop-k._k c.in_ok-tree.tree
            c.push_reserved.ensures.items both.0,
        both.1,
      );
}

pub take_trees-returns-clause-firsts : goal.take_trees-returns-clause-firsts
take_trees-returns-clause-firsts t c = λ ts rest many is.
    took-all ts _ c.loop-k._k c.args.count _ rest many (omega (arith, c.loop-k-test.false))
    (c.loop-k.invariant.took ts rest many is)
