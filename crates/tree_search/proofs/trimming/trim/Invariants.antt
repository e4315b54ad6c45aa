use Rattle.std.proofs.Common.{◌≡◌, ◌≤◌, List, [], ◌∷◌, length, take}
use Rattle.std.specs.Vec.Iter.{into_iter_items, into_iter_len}
use Rattle.grouping_tree.specs.Grouped.{Belongs, labels_of, range_of, room_of}
use Rattle.tree_search.specs.declared.node.Node.{Node}
use Rattle.tree_search.specs.Going.{places_on}
use Rattle.tree_search.specs.Trim.{Trims, reaches}
use Rattle.tree_search.proofs.trimming.trim.Given as goal

abbrev pub invariant-loop-node : goal.invariant-loop-node
invariant-loop-node g l =
    let items = range_of l.problem l.fn.partial in
    let start = labels_of l.fn.partial in
    let cut = reaches (g.J.Judge.bound_of l.judge l.problem items) l.value in record {
      belongs : Belongs l.problem l.partial;
      range : range_of l.problem l.partial ≡ items;
      room : room_of l.partial ≡ room_of l.fn.partial;
      base : l.trimming.base ≡ length start;
      below : length start ≤ length (labels_of l.partial);
      front : take (length start) (labels_of l.partial) ≡ start;
      trims : (wanted : List Node) → Trims items cut wanted [] l.fn.nodes.items 0 (start ∷ [])
          → Trims items cut wanted l.trimming.kept.items (into_iter_items l.rest) l.trimming.skip
          (places_on items (length start) (labels_of l.partial) l.trimming.next);
    }

abbrev pub decreases-loop-node : goal.decreases-loop-node
decreases-loop-node g l = into_iter_len l.rest
