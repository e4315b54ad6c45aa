-- Laws of the lower bound: the project's own.
use Rattle.std.specs.Prelude.{◌≡◌, ◌+◌, ◌≤◌, ◌*◌, ◌++◌, ℕ, true, List, Option}
use Rattle.pack_model.specs.declared.item.Item.{Item}
use Rattle.pack_model.specs.Problem.{Parts, IsProblem}
use Rattle.class_frame.specs.Classes.{load_of}
use Rattle.class_frame.specs.Frame.{load_of_items}
use Rattle.class_frame.specs.Legal.{ClassStands, IsLegal}
use Rattle.grouping_tree.specs.Grouped.{items_in}
use Rattle.grouping_tree.specs.Partial.{IsPartial, begins}
use Rattle.grouping_tree.specs.Slack.{slack_of}
use Rattle.bandwidth_bound.specs.Bounds.{load8_of}
use Rattle.bandwidth_bound.specs.Laws.{AreOf}
use Rattle.bandwidth_bound.specs.Lemmas.{LemmasHold}
use Rattle.bandwidth_bound.specs.Prices.{lower8_of, prices_of}

-- as items join a class, it costs no less than it did with their prices, less its slack
abbrev pub PricesAreBelow : Type 0
PricesAreBelow = (problem : Parts) → IsProblem problem → (items more : List Item)
    → AreOf problem (items ++ more) → ClassStands (items ++ more)
    → 8 * load_of_items problem items + prices_of problem more
    ≤ 8 * load_of_items problem (items ++ more) + slack_of problem items

-- the bound at a partial grouping is at most 8 times the load of each legal grouping that extends it
abbrev pub BoundIsBelow : Type 0
BoundIsBelow = (problem : Parts) → IsProblem problem → (range : Option ℕ) (values : List ℕ)
    → LemmasHold problem values → (p q : List ℕ) → IsPartial (items_in problem.items range) p
    → IsLegal (items_in problem.items range) q → begins p q ≡ true
    → lower8_of problem values (items_in problem.items range) p
    ≤ 8 * load_of problem (items_in problem.items range) q

-- where all items are placed the bound is the load
abbrev pub BoundIsExact : Type 0
BoundIsExact = (problem : Parts) → IsProblem problem → (range : Option ℕ) (values : List ℕ) (q : List ℕ)
    → IsLegal (items_in problem.items range) q
    → lower8_of problem values (items_in problem.items range) q
    ≡ load8_of problem (items_in problem.items range) q

-- the bound is at least 8 times the load of the classes so far
abbrev pub BoundIsMore : Type 0
BoundIsMore = (problem : Parts) → IsProblem problem → (range : Option ℕ) (values : List ℕ) (p : List ℕ)
    → IsPartial (items_in problem.items range) p
    → load8_of problem (items_in problem.items range) p
    ≤ lower8_of problem values (items_in problem.items range) p
