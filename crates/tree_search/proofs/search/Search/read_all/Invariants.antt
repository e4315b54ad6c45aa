use Rattle.std.proofs.Common.{◌≡◌, ◌++◌, length, reverse}
use Rattle.cert_text.specs.Trees.{Plain}
use Rattle.grouping_tree.specs.Grouped.{labels_of}
use Rattle.tree_search.specs.Flat.{IsClosed, flat}
use Rattle.tree_search.specs.Open.{HasOptions}
use Rattle.tree_search.specs.Shown.{GoesOn, agenda, items_of, start_of}
use Rattle.tree_search.specs.Walks.{Walks}
use Rattle.tree_search.proofs.search.Search.read_all.Given as goal

abbrev pub invariant-loop-node : goal.invariant-loop-node
invariant-loop-node l =
    let first = l.initial.self in
    let items = items_of l.problem first in
    let from = start_of first in record {
      goes_on : GoesOn l.problem first l.self;
      best : l.self.best ≡ first.best;
      found : l.self.found ≡ first.found;
      closed : IsClosed l.self.nodes.items;
      parts : l.self.nodes.items ++ reverse l.rest.items ≡ l.fn.nodes.items;
      walks : (t : Plain) → flat t ≡ l.fn.nodes.items → HasOptions items from t
          → Walks items from t (reverse l.rest.items)
          (agenda items first.base (labels_of l.self.partial) l.self.open);
    }

abbrev pub decreases-loop-node : goal.decreases-loop-node
decreases-loop-node l = length l.rest.items
