-- What was written is what was planned.
use Rattle.std.proofs.Common.{◌≡◌, ◌≢◌, ◌∙◌, ℕ, Ok, IsOkAnd, ap, subst, sym}
use Rattle.pack_base.specs.Outside.{Files}
use Rattle.pack_model.specs.Problem.{Parts}
use Rattle.plan_search.specs.declared.planned.Planned.{Planned}
use Rattle.plan_search.specs.declared.planned.Planned.TheVariants as planned
use Rattle.canpack_top.specs.declared.ending.Status.TheVariants as status
use Rattle.canpack_top.specs.Files.{problem_at}
use Rattle.canpack_top.specs.Command.{Names}
use Rattle.canpack_top.specs.Meaning.{Answer}
use Rattle.canpack_top.specs.Plan.{IsPartPlanned, IsPlanAnswer, IsPlanned, PlanPartWritten, PlanWritten, plan_status}

-- a plan refuses no text
pub not_refused : (plan : Planned) → plan_status plan ≢ status.Refused
not_refused (planned.Best rows cert) = λ h. cc
not_refused (planned.NoSolution cert) = λ h. cc
not_refused (planned.Spent rows cert) = λ h. cc

-- and rejects nothing
pub not_rejected : (plan : Planned) → plan_status plan ≢ status.Rejected
not_rejected (planned.Best rows cert) = λ h. cc
not_rejected (planned.NoSolution cert) = λ h. cc
not_rejected (planned.Spent rows cert) = λ h. cc

-- it is the answer of the plan
pub is_plan_answer : (names : Names) (branches : ℕ) (before mid now : Files) (problem : Parts) (answer : Answer)
    → problem_at names before ≡ Ok problem → PlanWritten names branches problem answer mid now
    → IsOkAnd (problem_at names before) (IsPlanAnswer branches answer)
is_plan_answer names branches before mid now problem answer stands made =
    rw stands (made.plan, made.is_for, made.answers)

-- two whole texts that were written are those that are planned
pub is_planned : (names : Names) (branches : ℕ) (before mid now : Files) (problem : Parts) (answer : Answer)
    → problem_at names before ≡ Ok problem → mid ≡ before
    → PlanWritten names branches problem answer mid now
    → IsPlanned names branches before now answer
is_planned names branches before mid now problem answer stands same written =
    let Q : Files → Type 0 = λ f. PlanWritten names branches problem answer f now in
    rw stands (subst Q same written)

-- the same of texts that were written in part
pub is_part_planned : (names : Names) (branches : ℕ) (before mid now : Files) (problem : Parts)
    → problem_at names before ≡ Ok problem → mid ≡ before
    → PlanPartWritten names branches problem mid now
    → IsPartPlanned names branches before now
is_part_planned names branches before mid now problem stands same written =
    let Q : Files → Type 0 = λ f. PlanPartWritten names branches problem f now in
    rw stands (subst Q same written)
