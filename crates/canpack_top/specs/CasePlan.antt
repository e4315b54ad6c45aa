-- What `make` without files means: a generated case is planned in memory.
use Rattle.std.specs.Prelude.{◌≡◌, ℕ, [], ◌++◌, codes, None}
use Rattle.pack_base.specs.Outside.{Files}
use Rattle.case_gen.specs.Generated.{parts_of_case}
use Rattle.plan_search.specs.declared.planned.Planned.{Planned}
use Rattle.plan_search.specs.Plan.{judged_plan, verdict_of_plan}
use Rattle.canpack_top.specs.Headline.{Promises}
use Rattle.canpack_top.specs.Make.{count_words}
use Rattle.canpack_top.specs.Meaning.{Answer, Meaning}
use Rattle.canpack_top.specs.Plan.{IsPlanFor, plan_line, plan_status}

-- the branches within which a generated case is planned
abbrev pub case_branches : ℕ
case_branches = 100000

-- the answer with a plan for the case of a number: the words of the case, a space, and the line of the plan
unfoldable pub case_plan_answer : ℕ → Planned → Answer
case_plan_answer number plan = record {
  status = plan_status plan;
  line = count_words number (parts_of_case number) (codes " " ++ plan_line (parts_of_case number) plan);
}

-- the answer with the plan for the case of a number, and what the plan promises of it
pub record IsCasePlan (number : ℕ) (answer : Answer) : Type 0 where
  pub plan : Planned
  pub is_for : IsPlanFor (parts_of_case number) case_branches plan
  pub answers : answer ≡ case_plan_answer number plan
  pub promises : Promises (verdict_of_plan (parts_of_case number) plan) (judged_plan (parts_of_case number) plan)

-- `make` without files reads and writes none; it ends as the plan for the case does
abbrev pub case_plan_meaning : ℕ → Meaning
case_plan_meaning number = record {
  reads = [];
  writes = [];
  first_refusal = λ files. None;
  Has = λ answer. IsCasePlan number answer;
  Answers = λ files answer. IsCasePlan number answer;
  Leaves = λ answer before now. now ≡ before;
  LeavesPart = λ before now. ⊥;
  Shows = λ answer before now. IsCasePlan number answer;
}
