use Rattle.std.proofs.Common.{◌≡◌, ◌≤◌, ◌++◌, List, length, map, take, drop, ℕ, ◌+◌, ◌*◌}
use Rattle.std.specs.Vec.{vec_len, vec_capacity}
use Rattle.std.specs.Vec.Iter.{into_iter_items, into_iter_len}
use Rattle.cert_text.specs.Trees.{Plain}
use Rattle.cert_text.specs.PlainTree.{plain_of}
use Rattle.tree_search.specs.declared.node.Node.{Node}
use Rattle.tree_search.specs.Flat.{flats}
use Rattle.tree_search.proofs.tree.+take.Given as goal

abbrev pub decreases-take_tree : goal.decreases-take_tree
decreases-take_tree l = 2 * into_iter_len l.nodes.now

abbrev pub decreases-take_trees : goal.decreases-take_trees
decreases-take_trees l = 2 * into_iter_len l.nodes.now + 1

-- so many trees were taken
abbrev pub invariant-take_trees-loop-k : goal.invariant-take_trees-loop-k
invariant-take_trees-loop-k l = record {
  fewer : into_iter_len l.nodes ≤ into_iter_len l.fn.nodes;
  count_is : vec_len l.trees ≡ l._k;
  room : vec_capacity l.trees ≡ l.count;
  took : (ts : List Plain) (rest : List Node) → length ts ≡ l.count
      → into_iter_items l.fn.nodes ≡ flats ts ++ rest
      → (map plain_of l.trees.items ≡ take l._k ts)
      × (into_iter_items l.nodes ≡ flats (drop l._k ts) ++ rest);
}
