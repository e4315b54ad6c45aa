use Rattle.std.proofs.Common.{◌≡◌, ◌++◌, map}
use Rattle.tree_search.specs.Flat.{flats}
use Rattle.cert_text.specs.PlainTree.{plain_of}
use Rattle.tree_search.proofs.tree.+flatten.Given as goal

abbrev pub invariant-loop-child : goal.invariant-loop-child
invariant-loop-child l = l.nodes.items ≡ l.initial.nodes.items ++ flats (map plain_of l.yielded)
