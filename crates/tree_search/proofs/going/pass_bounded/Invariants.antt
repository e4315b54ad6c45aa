use Rattle.std.proofs.Common.{◌≡◌, ◌+◌, ◌≤◌, ℕ, List, Option, Some, length}
use Rattle.grouping_tree.specs.Grouped.{labels_of, range_of}
use Rattle.grouping_tree.specs.Walk.{options_from}
use Rattle.tree_search.specs.declared.finding.Found.{Found}
use Rattle.tree_search.specs.Going.{Holds, places_on}
use Rattle.tree_search.specs.Step.{Searched, Steps}
use Rattle.tree_search.proofs.going.pass_bounded.Given as goal

abbrev pub invariant-loop-label : goal.invariant-loop-label
invariant-loop-label g l =
    let items = range_of l.problem l.partial in
    let labels = labels_of l.partial in record {
      within : l.made ≤ l.steps;
      count : length l.nodes.items ≡ length l.initial.nodes.items + l.made;
      gives : (start : List ℕ) (base : ℕ) (found : Option Found) (x : Searched)
          → Holds items start l.initial.nodes.items (places_on items base labels (Some l.from)) l.best found x
          → (y : Searched) × Steps (g.J.Judge.finds l.judge l.problem items) items start l.made x y
          × Holds items start l.nodes.items (places_on items base labels (Some l.next)) l.best found y;
    }

abbrev pub decreases-loop-label : goal.decreases-loop-label
decreases-loop-label g l = length (options_from (range_of l.problem l.partial) (labels_of l.partial) l.next)
