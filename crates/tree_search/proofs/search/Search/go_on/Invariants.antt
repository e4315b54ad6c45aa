use Rattle.std.proofs.Common.{◌≡◌, ◌+◌, ◌≤◌, None, true, length}
use Rattle.grouping_tree.specs.Grouped.{labels_of}
use Rattle.tree_search.specs.Going.{Holds, IsOn, places_on}
use Rattle.tree_search.specs.Shown.{GoesOn, items_of, start_of}
use Rattle.tree_search.specs.Step.{Searched, Steps}
use Rattle.tree_search.proofs.Goings.{more_of}
use Rattle.tree_search.proofs.search.Search.go_on.Given as goal

abbrev pub invariant-loop-next : goal.invariant-loop-next
invariant-loop-next g l =
    let first = l.initial.self in
    let items = items_of l.problem first in record {
      goes_on : GoesOn l.problem first l.self;
      is_open : l.self.open ≡ true;
      best : l.self.best ≡ first.best;
      found : l.self.found ≡ first.found;
      done : l.next ≡ None → labels_of l.self.partial ≡ start_of first;
      within : l.made ≤ l.steps;
      count : length l.self.nodes.items ≡ length first.nodes.items + l.made;
      gives : (x : Searched) → IsOn l.problem first l.fn.from x → (y : Searched)
          × Steps (g.J.Judge.finds l.judge l.problem items) items (start_of first) l.made x y
          × Holds items (start_of first) l.self.nodes.items
          (places_on items first.base (labels_of l.self.partial) l.next) first.best first.found y;
    }

abbrev pub decreases-loop-next : goal.decreases-loop-next
decreases-loop-next g l = more_of l.next (length (labels_of l.self.partial))
