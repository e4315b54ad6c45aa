-- A search over all items: its tree stands, and what it found is its best.
use Rattle.std.proofs.Common.{◌≡◌, ℕ, zero, suc, List, [], true, Option, None, IfSome, refl, sym, subst}
use Rattle.pack_model.specs.Problem.{Parts, IsProblem}
use Rattle.grouping_tree.specs.Partial.{IsPartial}
use Rattle.grouping_tree.proofs.Used.{partial-none}
use Rattle.bandwidth_bound.specs.Goals.{main_goal}
use Rattle.bandwidth_bound.specs.Trees.{TreeStands}
use Rattle.search_judge.specs.Findings.{Finds, FoundStands}
use Rattle.search_judge.proofs.Places.{place_partial, tree_step}
use Rattle.search_judge.proofs.Shows.{complete_stands}
use Rattle.tree_search.specs.declared.finding.Finding.{Finding}
use Rattle.tree_search.specs.declared.finding.Finding.TheVariants.{Bounded, Failed, Complete, Parted}
use Rattle.tree_search.specs.declared.finding.Found.{Found}
use Rattle.tree_search.specs.Step.{Searched, Step, Steps, best_after, found_after}
use Rattle.plan_search.specs.Plan.{last_found, load_found}
use Rattle.plan_search.specs.Searches.{begun_with}

module _ (problem : Parts) (stands : IsProblem problem) (values : List ℕ) (first : Option Found) where
  -- where a search over all items is, from a first best
  pub record IsAlong (x : Searched) : Type 0 where
    pub tree : TreeStands (main_goal problem values x.best true) [] x.tree
    pub found : IfSome (last_found x.found first) (FoundStands problem)
    pub best : load_found (last_found x.found first) ≡ x.best

  -- what was found last stands after each finding, and is the best
  found_along : (best : Option ℕ) (p : List ℕ) (finding : Finding) (found : Option Found)
      → IsPartial problem.items p → Finds problem None values best p finding
      → IfSome (last_found found first) (FoundStands problem) → load_found (last_found found first) ≡ best
      → IfSome (last_found (found_after finding p found) first) (FoundStands problem)
      × (load_found (last_found (found_after finding p found) first) ≡ best_after finding best)
  found_along best p Bounded found partial h is same = (is, same)
  found_along best p (Failed named) found partial h is same = (is, same)
  found_along best p (Complete load order) found partial h is same =
      (complete_stands problem stands values best p load order partial h, refl)
  found_along best p Parted found partial h is same = (is, same)

  one_step : (x y : Searched) → Step (Finds problem None values) problem.items [] x y → IsAlong x → IsAlong y
  one_step x y step along =
      let partial : IsPartial problem.items step.place =
      place_partial problem stands None values [] (partial-none problem.items) x y step along.tree in
      let after = found_along x.best step.place step.finding x.found partial step.finds along.found
      along.best in
      record {
        tree = tree_step problem stands None values [] (partial-none problem.items) x y step along.tree;
        found = subst (λ (z : Searched). IfSome (last_found z.found first) (FoundStands problem))
            (sym step.is) after.0;
        best = subst (λ (z : Searched). load_found (last_found z.found first) ≡ z.best) (sym step.is) after.1;
      }

  -- a search from the first best stands
  pub steps_along : (n : ℕ) (x y : Searched) → Steps (Finds problem None values) problem.items [] n x y
      → IsAlong x → IsAlong y
  steps_along zero x y steps along = subst IsAlong (sym steps) along
  steps_along (suc n) x y steps along = one_step steps.0 y steps.2 (steps_along n x steps.0 steps.1 along)

  -- at its beginning
  pub begins_along : IfSome first (FoundStands problem) → IsAlong (begun_with (load_found first))
  begins_along is = record { tree = refl; found = is; best = refl }
