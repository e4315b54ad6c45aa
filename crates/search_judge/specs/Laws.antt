-- What is found shows what it says: the project's own.
use Rattle.std.specs.Prelude.{◌≡◌, ℕ, List, Option}
use Rattle.pack_model.specs.Problem.{Parts, IsProblem}
use Rattle.grouping_tree.specs.Grouped.{items_in}
use Rattle.grouping_tree.specs.Partial.{IsPartial}
use Rattle.bandwidth_bound.specs.Goals.{FailsIn}
use Rattle.bandwidth_bound.specs.Prices.{lower8_of}
use Rattle.tree_search.specs.declared.finding.Finding.{Finding}
use Rattle.tree_search.specs.Sound.{Shown}
use Rattle.search_judge.specs.Findings.{Finds}

-- what is found at a partial grouping shows this there
abbrev pub FindingsShow : Type 0
FindingsShow = (problem : Parts) → IsProblem problem → (range : Option ℕ) (values : List ℕ) (best : Option ℕ)
    (p : List ℕ) → IsPartial (items_in problem.items range) p → (finding : Finding)
    → Finds problem range values best p finding
    → Shown (items_in problem.items range) (lower8_of problem values (items_in problem.items range))
    (FailsIn problem range) best p finding

-- one thing is found
abbrev pub OneIsFound : Type 0
OneIsFound = (problem : Parts) → IsProblem problem → (range : Option ℕ) (values : List ℕ) (best : Option ℕ)
    (p : List ℕ) → IsPartial (items_in problem.items range) p → (one other : Finding)
    → Finds problem range values best p one → Finds problem range values best p other → one ≡ other
