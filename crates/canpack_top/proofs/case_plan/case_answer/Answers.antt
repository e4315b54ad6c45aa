use Rattle.std.proofs.Common.{◌≡◌, ◌∙◌, ◌++◌, ℕ, List, ap, codes, subst, refl}
use Rattle.pack_model.specs.Problem.{Parts}
use Rattle.canpack_top.specs.CasePlan.{case_branches}
use Rattle.canpack_top.specs.Make.{count_words}
use Rattle.canpack_top.specs.Plan.{IsMade}
use Rattle.canpack_top.specs.Verdict.{verdict_line}
use Rattle.canpack_top.proofs.CaseMade.{case_made}
use Rattle.canpack_top.proofs.case_plan.case_answer.Goals as goal

pub returns : goal.returns
returns c =
    let same : c.in_ok-problem.problem ≡ _ = c.in_ok-problem.ensures in
    case_made c.args.number c.in_ok-made.made
    (subst (λ (p : Parts). IsMade p case_branches c.in_ok-made.made) same c.in_ok-made.ensures)
    _ refl
    (c.in_ok-case_line.ensures
    ∙ ap (λ (text : List ℕ). count_words c.args.number c.in_ok-problem.problem (codes " " ++ text))
    (c.deref.ensures.value ∙ c.in_ok-line.ensures
    ∙ ap (λ hyper. verdict_line hyper c.in_ok-made.made.shown) c.hyper.ensures.hyper)
    ∙ ap (λ (p : Parts). count_words c.args.number p (codes " " ++ verdict_line p.hyper c.in_ok-made.made.shown)) same)
