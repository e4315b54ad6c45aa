use Rattle.std.proofs.Common.{sym}
use Rattle.cert_text.specs.PlainTree.{plain_of}
use Rattle.tree_search.proofs.trimming.trim_tree.Goals as goal

pub trim-requires-clause-tree : goal.trim-requires-clause-tree
trim-requires-clause-tree g c =
    (plain_of c.args.tree, sym (rw c.new-nodes.ensures.items at c.in_ok-flatten.ensures), c.requires.tree)

pub returns-clause-trimmed : goal.returns-clause-trimmed
returns-clause-trimmed g c =
    c.in_ok-trimmed.ensures _
    (c.in_ok-kept.ensures.trimmed (plain_of c.args.tree)
    (sym (rw c.new-nodes.ensures.items at c.in_ok-flatten.ensures)) c.requires.tree)
