-- The answer of a generated case that is planned.
use Rattle.std.proofs.Common.{◌≡◌, ◌∙◌, ◌++◌, ℕ, List, ap, codes, sym}
use Rattle.pack_model.specs.Problem.{Parts}
use Rattle.case_gen.specs.Generated.{parts_of_case}
use Rattle.plan_search.specs.Plan.{judged_plan, verdict_of_plan}
use Rattle.canpack_top.specs.declared.planning.Made.{Made}
use Rattle.canpack_top.specs.CasePlan.{IsCasePlan, case_branches, case_plan_answer}
use Rattle.canpack_top.specs.Make.{count_words}
use Rattle.canpack_top.specs.Meaning.{Answer}
use Rattle.canpack_top.specs.Plan.{IsMade}
use Rattle.canpack_top.specs.Verdict.{verdict_line}
use Rattle.canpack_top.proofs.Promised.{promised}

-- the plan that was made for the case, its status, and its line after the words of the case
pub case_made : (number : ℕ) (made : Made) → IsMade (parts_of_case number) case_branches made → (answer : Answer)
    → answer.status ≡ made.status
    → answer.line ≡ count_words number (parts_of_case number)
    (codes " " ++ verdict_line (parts_of_case number).hyper made.shown)
    → IsCasePlan number answer
unfolding case_plan_answer
case_made number made is answer status_is line_is = record {
  plan = is.plan;
  is_for = is.is_for;
  answers = λ i. record {
    status = (status_is ∙ is.status_is) i;
    line =
        (line_is
        ∙ ap (λ shown. count_words number (parts_of_case number)
        (codes " " ++ verdict_line (parts_of_case number).hyper shown)) is.shown) i;
  };
  promises = promised (judged_plan (parts_of_case number) is.plan) (verdict_of_plan (parts_of_case number) is.plan)
      is.accepted is.holds;
}
