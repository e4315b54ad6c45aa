-- Laws of plans: the project's own.
use Rattle.std.specs.Prelude.{ℕ, ◌≡◌}
use Rattle.pack_model.specs.Problem.{Parts, IsProblem, IsSorted}
use Rattle.plan_search.specs.Alone.{IsPlanAlone}
use Rattle.plan_search.specs.declared.alone.Alone.{Alone}
use Rattle.plan_search.specs.declared.planned.Planned.{Planned}
use Rattle.plan_search.specs.Plan.{IsPlanOf}

-- a problem has one such plan
abbrev pub PlanAloneIsOne : Type 0
PlanAloneIsOne = (problem : Parts) (plan other : Alone) → IsProblem problem
    → IsSorted problem.signals problem.items
    → IsPlanAlone problem plan → IsPlanAlone problem other → plan ≡ other

-- a problem has one plan within so many branches
abbrev pub PlanIsOne : Type 0
PlanIsOne = (problem : Parts) (branches : ℕ) (plan other : Planned) → IsProblem problem
    → IsSorted problem.signals problem.items
    → IsPlanOf problem branches plan → IsPlanOf problem branches other → plan ≡ other
