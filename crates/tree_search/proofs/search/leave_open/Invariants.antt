use Rattle.std.proofs.Common.{◌≡◌, ◌≤◌, ◌++◌, length, map, replicate}
use Rattle.grouping_tree.specs.Grouped.{Belongs, labels_of, range_of}
use Rattle.tree_search.specs.declared.node.Node.TheVariants.{Left}
use Rattle.tree_search.specs.Open.{least_of, least_with}
use Rattle.tree_search.specs.Shown.{agenda}
use Rattle.tree_search.proofs.search.leave_open.Given as goal

abbrev pub invariant-loop-more : goal.invariant-loop-more
invariant-loop-more g l =
    let items = range_of l.problem l.initial.partial in record {
      belongs : Belongs l.problem l.partial;
      range : range_of l.problem l.partial ≡ items;
      below : l.base ≤ length (labels_of l.partial);
      nodes : l.nodes.items ++ replicate (length (agenda items l.base (labels_of l.partial) l.more)) Left
          ≡ l.initial.nodes.items ++ replicate
          (length (agenda items l.base (labels_of l.initial.partial) l.initial.more)) Left;
      least : least_with l.least
          (map (g.J.Judge.bound_of l.judge l.problem items) (agenda items l.base (labels_of l.partial) l.more))
          ≡ least_of (map (g.J.Judge.bound_of l.judge l.problem items)
          (agenda items l.base (labels_of l.initial.partial) l.initial.more));
    }

abbrev pub decreases-loop-more : goal.decreases-loop-more
decreases-loop-more g l = length (agenda (range_of l.problem l.partial) l.base (labels_of l.partial) l.more)
