use Rattle.std.proofs.Common.{List, OnOk, ap, arith, refl, subst, sym, ◌∙◌}
use Rattle.std.specs.List.{flat_map}
use Rattle.cert_text.specs.declared.line.Line.{Line}
use Rattle.cert_text.specs.declared.parts.Tree.{Tree}
use Rattle.cert_text.specs.Adding.{Adds, tree_lines}
use Rattle.cert_text.specs.PlainTree.{plain_of}
use Rattle.cert_text.specs.CertEvents.{tree_events}
use Rattle.cert_text.proofs.Adds.{adds-all, adds-more, adds-none}
use Rattle.cert_text.proofs.TreeLines.{adds-inner}
use Rattle.cert_text.proofs.Trees.{plain-Bound, plain-Fail, plain-Inner, plain-Left}
use Rattle.cert_text.proofs.writing.+tree.Goals as goal

pub put_inner-loop-subtree-init : goal.put_inner-loop-subtree-init
put_inner-loop-subtree-init t c = adds-none _ _ refl

pub put_inner-loop-subtree-preserved : goal.put_inner-loop-subtree-preserved
put_inner-loop-subtree-preserved t c =
    adds-more (λ x. tree_lines c.marks_below-marks_there.result (plain_of x)) c.deref-subtree-items.result.now c.loop-subtree.subtree-index c.subtree-item.result c.put_inner_line.new.out.items c.loop-subtree.out.items
    c.put_tree.new.out.items c.loop-subtree-test.true c.subtree-item.is c.loop-subtree.invariant c.in_ok-put_tree.ensures

pub put_inner-returns : goal.put_inner-returns
put_inner-returns t c =
    let lines : Tree → List Line = λ x. tree_lines c.marks_below-marks_there.result (plain_of x) in
    adds-inner c.args.marks c.marks_below-marks_there.result c.args.subtrees.now.items c.len.result c.args.out.now.items c.put_opening.new.out.items c.put_inner_line.new.out.items c.loop-subtree.out.items
    c.put_closing.new.out.items (omega (arith, c.len.ensures, c.args.subtrees.now.ok.0)) c.marks_below-marks_there.ensures c.in_ok-put_opening.ensures c.in_ok-put_inner_line.ensures
    (subst (λ ts. Adds c.put_inner_line.new.out.items c.loop-subtree.out.items (flat_map lines ts)) c.deref-subtree-items.ensures.value
    (adds-all lines c.deref-subtree-items.result.now c.loop-subtree.subtree-index c.put_inner_line.new.out.items c.loop-subtree.out.items c.loop-subtree-test.false c.loop-subtree.invariant))
    c.in_ok-put_closing.ensures

pub put_tree-returns-in-Inner : goal.put_tree-returns-in-Inner
put_tree-returns-in-Inner t c =
    subst (λ p. OnOk c.put_inner.result (Adds c.args.out.now.items c.put_inner.new.out.items (tree_lines c.args.marks p))) (sym (ap plain_of c.in-Inner.is ∙ plain-Inner c.in-Inner.subtrees)) c.put_inner.ensures

pub put_tree-returns-in-Bound : goal.put_tree-returns-in-Bound
unfolding tree_events
put_tree-returns-in-Bound t c =
    subst (λ p. OnOk c.put_line.result (Adds c.args.out.now.items c.put_line.new.out.items (tree_lines c.args.marks p))) (sym (ap plain_of c.in-Bound.is ∙ plain-Bound)) c.put_line.ensures

pub put_tree-returns-in-Left : goal.put_tree-returns-in-Left
unfolding tree_events
put_tree-returns-in-Left t c =
    subst (λ p. OnOk c.put_line-in-Left.result (Adds c.args.out.now.items c.put_line-in-Left.new.out.items (tree_lines c.args.marks p))) (sym (ap plain_of c.in-Left.is ∙ plain-Left)) c.put_line-in-Left.ensures

pub put_tree-returns-in-Fail : goal.put_tree-returns-in-Fail
unfolding tree_events
put_tree-returns-in-Fail t c =
    subst (λ p. OnOk c.put_fail.result (Adds c.args.out.now.items c.put_fail.new.out.items (tree_lines c.args.marks p))) (sym (ap plain_of c.in-Fail.is ∙ plain-Fail c.in-Fail.refuted)) c.put_fail.ensures
