-- What `plan` means: the best matrix, or that there is none, or how far a search came within its branches.
use Rattle.std.specs.Prelude.{◌≡◌, ℕ, List, true, Ok, IsOkAnd, option_map}
use Rattle.std.specs.Result.{result_err}
use Rattle.pack_base.specs.Outside.{Files}
use Rattle.pack_model.specs.Problem.{Parts}
use Rattle.matrix_text.specs.MatrixText.{MatrixText, matrix_text}
use Rattle.cert_text.specs.Lines.{cert_lines, text_of}
use Rattle.cert_text.specs.Reading.{cert_of_text}
use Rattle.cert_text.specs.Written.{CertFits, written_cert}
use Rattle.bandwidth_bound.specs.Follows.{Holds}
use Rattle.bandwidth_bound.specs.Rule as rule
use Rattle.plan_search.specs.declared.planned.Planned.{Planned}
use Rattle.plan_search.specs.declared.planned.Planned.TheVariants as planned
use Rattle.plan_search.specs.Plan.{IsPlanOf, IsTrimmedPlan, IsWithin, cert_of_plan, judged_plan, matrix_of_plan, verdict_of_plan}
use Rattle.canpack_top.specs.declared.ending.Status.{Status}
use Rattle.canpack_top.specs.declared.ending.Status.TheVariants as status
use Rattle.canpack_top.specs.declared.planning.PlanTexts.{PlanTexts}
use Rattle.canpack_top.specs.declared.planning.Made.{Made}
use Rattle.canpack_top.specs.Check.{texts_at}
use Rattle.canpack_top.specs.Command.{Names}
use Rattle.canpack_top.specs.Files.{problem_at}
use Rattle.canpack_top.specs.Line.{refused_line}
use Rattle.canpack_top.specs.Meaning.{Answer, Meaning}
use Rattle.canpack_top.specs.Reads.{problem_names, written_names}
use Rattle.canpack_top.specs.Verdict.{verdict_line}
use Rattle.canpack_top.specs.Write.{PartWritten, Written}

-- this is planned for a problem within so many branches: what is written where the answer is final is trimmed, and
-- where the branches are spent the trees have exactly so many nodes, fewer than the count of branches
pub record IsPlanFor (problem : Parts) (branches : ℕ) (plan : Planned) : Type 0 where
  pub exact : IsPlanOf problem branches plan
  pub trimmed : IsTrimmedPlan problem plan
  pub within : IsWithin problem branches plan

-- the status with which a plan ends
abbrev pub plan_status : Planned → Status
plan_status (planned.Best rows cert) = status.Done
plan_status (planned.NoSolution cert) = status.NoSolution
plan_status (planned.Spent rows cert) = status.Spent

-- the text of the matrix that is planned
unfoldable pub planned_matrix : Planned → List ℕ
planned_matrix plan = matrix_text (matrix_of_plan plan)

-- the text of its certificate, with marks
unfoldable pub planned_cert : Planned → List ℕ
planned_cert plan = text_of (cert_lines (written_cert true (cert_of_plan plan)))

-- the line of what is planned for a problem: that of what the certificate shows
abbrev pub plan_line : Parts → Planned → List ℕ
plan_line problem plan = verdict_line problem.hyper (verdict_of_plan problem plan)

-- the answer of `plan`
abbrev pub plan_answer : Parts → Planned → Answer
plan_answer problem plan = record { status = plan_status plan; line = plan_line problem plan }

-- A plan for the problem, of which MATRIX and CERT hold the texts, and this is the answer.
pub record PlanWritten (names : Names) (branches : ℕ) (problem : Parts) (answer : Answer)
    (before now : Files) : Type 0 where
  pub plan : Planned
  pub is_for : IsPlanFor problem branches plan
  pub answers : answer ≡ plan_answer problem plan
  pub written : Written names.matrix names.cert (planned_matrix plan) (planned_cert plan) before now

-- A plan for the problem, of which MATRIX and CERT hold fronts of the texts, or what they held.
pub record PlanPartWritten (names : Names) (branches : ℕ) (problem : Parts) (before now : Files) : Type 0 where
  pub plan : Planned
  pub is_for : IsPlanFor problem branches plan
  pub written : PartWritten names.matrix names.cert (planned_matrix plan) (planned_cert plan) before now

-- MATRIX and CERT hold the texts of the plan for the problem, and this is its answer
abbrev pub IsPlanned : Names → ℕ → Files → Files → Answer → Type 0
IsPlanned names branches before now answer =
    IsOkAnd (problem_at names before) (λ problem. PlanWritten names branches problem answer before now)

-- MATRIX and CERT hold fronts of the texts of the plan for the problem, or what they held
abbrev pub IsPartPlanned : Names → ℕ → Files → Files → Type 0
IsPartPlanned names branches before now =
    IsOkAnd (problem_at names before) (λ problem. PlanPartWritten names branches problem before now)

-- this is the answer with the plan for the problem
abbrev pub IsPlanAnswer : ℕ → Answer → Parts → Type 0
IsPlanAnswer branches answer problem =
    (plan : Planned) × IsPlanFor problem branches plan × (answer ≡ plan_answer problem plan)

-- what four files say is a plan for their problem with this answer; the acceptance rule holds with its verdict, and
-- so all that follows from it
pub record PlanShows (branches : ℕ) (answer : Answer) (judged : rule.Judged) : Type 0 where
  pub plan : Planned
  pub is_for : IsPlanFor judged.problem branches plan
  pub answers : answer ≡ plan_answer judged.problem plan
  pub accepted : rule.Accepts judged (verdict_of_plan judged.problem plan)
  pub holds : Holds judged

-- the same of the files that are named
abbrev pub ShowsPlan : Names → ℕ → Files → Answer → Type 0
ShowsPlan names branches files answer = IsOkAnd (texts_at names files) (PlanShows branches answer)

-- `plan` reads two files and writes two; it ends with the answer of the plan for the problem, and `check` accepts what
-- it wrote, with that line
abbrev pub plan_meaning : ℕ → Names → Meaning
plan_meaning branches names = record {
  reads = problem_names names;
  writes = written_names names;
  first_refusal = λ files. option_map refused_line (result_err (problem_at names files));
  Has = λ answer. (problem : Parts) × IsPlanAnswer branches answer problem;
  Answers = λ files answer. IsOkAnd (problem_at names files) (IsPlanAnswer branches answer);
  Leaves = λ answer before now. IsPlanned names branches before now answer;
  LeavesPart = λ before now. IsPartPlanned names branches before now;
  Shows = λ answer before now. ShowsPlan names branches now answer;
}

-- the matrix, the certificate, the status and the verdict are those of a plan for the problem, which is accepted
pub record IsMade (problem : Parts) (branches : ℕ) (given : Made) : Type 0 where
  pub plan : Planned
  pub is_for : IsPlanFor problem branches plan
  pub matrix : given.matrix ≡ matrix_of_plan plan
  pub cert : given.cert ≡ cert_of_plan plan
  pub status_is : given.status ≡ plan_status plan
  pub shown : given.shown ≡ verdict_of_plan problem plan
  pub accepted : rule.Accepts (judged_plan problem plan) (verdict_of_plan problem plan)
  pub holds : Holds (judged_plan problem plan)
  pub fits : CertFits given.cert

-- the texts, the status and the line are those of a plan for the problem, and say what is accepted
pub record AreMade (problem : Parts) (branches : ℕ) (texts : PlanTexts) : Type 0 where
  pub plan : Planned
  pub is_for : IsPlanFor problem branches plan
  pub matrix : texts.matrix.items ≡ planned_matrix plan
  pub cert : texts.cert.items ≡ planned_cert plan
  pub status_is : texts.status ≡ plan_status plan
  pub line : texts.line.items ≡ plan_line problem plan
  pub matrix_reads : MatrixText texts.matrix.items (matrix_of_plan plan)
  pub cert_reads : cert_of_text texts.cert.items ≡ Ok (cert_of_plan plan)
  pub accepted : rule.Accepts (judged_plan problem plan) (verdict_of_plan problem plan)
  pub holds : Holds (judged_plan problem plan)
