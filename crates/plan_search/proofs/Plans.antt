-- A plan, from how it begins, what its search ends with, and what is made of that.
use Rattle.std.proofs.Common.{◌≡◌, ℕ, ◌+◌, List, All, Option, Bool, true, false, None, Some, refl, sym, ap, ◌∙◌, subst}
use Rattle.pack_model.specs.Problem.{Parts, IsProblem, IsSorted}
use Rattle.matrix_rows.specs.declared.matrix.MatrixRow.{MatrixRow}
use Rattle.cert_text.specs.declared.parts.FrameLine.{FrameLine}
use Rattle.cert_text.specs.Parts.{LemmaOf}
use Rattle.cert_text.specs.PlainTree.{plain_of}
use Rattle.cert_text.specs.Trees.{Plain}
use Rattle.cert_text.specs.Written.{CertFits}
use Rattle.bandwidth_bound.specs.Lemmas.{LemmasStand, values_of}
use Rattle.bandwidth_bound.specs.Rule.{Accepts}
use Rattle.tree_search.specs.declared.finding.Found.{Found}
use Rattle.tree_search.specs.Open.{has_open}
use Rattle.plan_search.specs.declared.planned.Planned.{Planned}
use Rattle.plan_search.specs.declared.searching.Ended.{Ended}
use Rattle.plan_search.specs.Begin.{Begins}
use Rattle.plan_search.specs.Ending.{IsEnded, final_tree, plan_with, plan_without, verdict_with}
use Rattle.plan_search.specs.Plan.{Ends, IsPlanOf, IsShownBy, IsTrimmedPlan, IsWithin, cert_of_plan, judged_plan, load_found, verdict_of_plan}
use Rattle.plan_search.specs.Searches.{nodes_of_lemmas, LemmaIsTrimmed}
use Rattle.plan_search.proofs.Ended.{ends_accepted, ends_fits, ends_trimmed, ends_verdict}
use Rattle.plan_search.proofs.Within.{ends_within}

module _ (problem : Parts) (lemmas : List (LemmaOf Plain)) (t tree : Plain) where
  -- the plan of a matrix is what a plan with a best grouping ends with
  pub with_ends : (found : Found) (rows : List MatrixRow) (lines : List FrameLine) (is_open : Bool)
      → IsShownBy problem found rows lines → has_open t ≡ is_open
      → tree ≡ final_tree problem (values_of problem lemmas) (Some found.load) is_open t
      → Ends problem lemmas (Some found) t (plan_with rows lines lemmas tree is_open)
  with_ends found rows lines true shown e is = rw is (e, (found, refl, shown, refl))
  with_ends found rows lines false shown e is = rw is (e, (found, refl, shown, refl))

  -- and the plan without one what a plan without a best grouping ends with
  pub without_ends : (is_open : Bool) → has_open t ≡ is_open
      → tree ≡ final_tree problem (values_of problem lemmas) None is_open t
      → Ends problem lemmas None t (plan_without lemmas tree is_open)
  without_ends true e is = rw is (e, refl, refl)
  without_ends false e is = rw is (e, refl, refl)

module _ (problem : Parts) (stands : IsProblem problem) (sorted : IsSorted problem.signals problem.items)
    (branches left : ℕ) (lemmas : List (LemmaOf Plain)) (first : Option Found)
    (begins : Begins problem branches lemmas left first) (lemmas_stand : LemmasStand problem lemmas)
    (values : List ℕ) (same : values ≡ values_of problem lemmas) (ended : Ended)
    (end_is : IsEnded problem values first left ended) (planned : Planned)
    (ends : (t : Plain) → has_open t ≡ ended.is_open
    → plain_of ended.tree ≡ final_tree problem (values_of problem lemmas)
    (load_found ended.best) ended.is_open t
    → Ends problem lemmas ended.best t planned) where
  -- what the search ends with, by the values of these lemmas
  here : IsEnded problem (values_of problem lemmas) first left ended
  here = subst (λ vs. IsEnded problem vs first left ended) same end_is

  ends_here : Ends problem lemmas ended.best here.end.tree planned
  ends_here = ends here.end.tree here.is_open here.tree

  pub plan_exact : IsPlanOf problem branches planned
  plan_exact = record {
    lemmas = lemmas;
    left = left;
    first = first;
    begins = begins;
    end = here.end;
    search = here.search;
    ends = subst (λ b. Ends problem lemmas b here.end.tree planned) here.best_is ends_here;
  }

  pub plan_accepted : Accepts (judged_plan problem planned) (verdict_of_plan problem planned)
  plan_accepted =
      ends_accepted problem stands sorted lemmas lemmas_stand here.end.tree ended.best planned here.found
      here.stands
      ends_here

  pub plan_trimmed : All (LemmaIsTrimmed problem) lemmas → IsTrimmedPlan problem planned
  plan_trimmed all =
      ends_trimmed problem stands sorted lemmas lemmas_stand here.end.tree ended.best planned here.found
      here.stands
      all ends_here

  pub plan_fits : CertFits (cert_of_plan planned)
  plan_fits =
      ends_fits problem stands sorted lemmas lemmas_stand here.end.tree ended.best planned here.found
      here.stands
      ends_here

  pub plan_verdict : verdict_with (load_found ended.best) ended.is_open ended.least
      ≡ verdict_of_plan problem planned
  plan_verdict =
      ap (λ o. verdict_with (load_found ended.best) o ended.least) (sym here.is_open)
      ∙ ends_verdict problem stands sorted lemmas lemmas_stand here.end.tree ended.best planned here.found
      here.stands
      ends_here ended.least here.least

  pub plan_within : nodes_of_lemmas lemmas + left ≡ branches → IsWithin problem branches planned
  plan_within all =
      ends_within problem lemmas lemmas_stand branches left here.search.made ended.best here.end.tree
      here.stands
      here.nodes here.search.within here.search.fewer all planned ends_here
