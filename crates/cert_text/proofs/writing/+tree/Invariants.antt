use Rattle.std.proofs.Common.{take}
use Rattle.std.specs.List.{flat_map}
use Rattle.cert_text.specs.Adding.{Adds, tree_lines}
use Rattle.cert_text.specs.PlainTree.{plain_of}
use Rattle.cert_text.proofs.writing.+tree.Given as goal

-- the subtrees so far were added
abbrev pub invariant-put_inner-loop-subtree : goal.invariant-put_inner-loop-subtree
invariant-put_inner-loop-subtree l =
    Adds l.initial.out.items l.out.items (flat_map (λ t. tree_lines l.marks_there (plain_of t)) (take l.subtree-index l.subtree-items))
