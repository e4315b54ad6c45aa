use Rattle.std.proofs.Common.{◌≡◌, ◌-◌, ◌^◌, map, min, take}
use Rattle.cert_text.specs.PlainTree.{onto, plain_of}
use Rattle.cert_text.specs.Trees.{none}
use Rattle.tree_search.specs.Open.{nodes_in}
use Rattle.plan_search.proofs.count.+tree.Given as goal

-- the trees so far are counted
abbrev pub invariant-count_each-loop-tree : goal.invariant-count_each-loop-tree
invariant-count_each-loop-tree l =
    l.count ≡ min (nodes_in (onto (map plain_of (take l.tree-index l.tree-items)) none)) (2 ^ 64 - 1)
