-- A search within so many steps ends in one way.
use Rattle.std.proofs.Common.{◌≡◌, ℕ, zero, suc, ◌<◌, ◌≤◌, ◌⊎◌, inl, inr, List, [], ◌∷◌, true, false, Option, refl, sym, ◌∙◌, subst, arith}
use Rattle.std.proofs.lemmas.Bool.{cases_eq, cases_lt}
use Rattle.pack_model.specs.Problem.{Parts, IsProblem}
use Rattle.grouping_tree.specs.Grouped.{items_in}
use Rattle.grouping_tree.specs.Partial.{IsPartial}
use Rattle.grouping_tree.proofs.Used.{partial-none}
use Rattle.bandwidth_bound.specs.Goals.{eighths, range_goal}
use Rattle.bandwidth_bound.specs.Trees.{Goal, TreeStands}
use Rattle.search_judge.specs.Findings.{Finds}
use Rattle.search_judge.specs.Laws.{OneIsFound}
use Rattle.search_judge.proofs.Places.{closed_places, place_partial, tree_steps}
use Rattle.tree_search.specs.Open.{has_open}
use Rattle.tree_search.specs.Step.{Searched, Step, Steps, after}
use Rattle.plan_search.specs.Searches.{IsSearch, begun_with}

module _ (problem : Parts) (stands : IsProblem problem) (one : OneIsFound) (range : Option ℕ)
    (values : List ℕ) where
  -- the empty grouping is a partial one
  start : IsPartial (items_in problem.items range) []
  start = partial-none (items_in problem.items range)

  abbrev goal_with : Option ℕ → Goal
  goal_with best = range_goal problem range values (eighths best) true

  abbrev Stands : Searched → Type 0
  Stands x = TreeStands (goal_with x.best) [] x.tree

  abbrev Makes : ℕ → Searched → Searched → Type 0
  Makes = Steps (Finds problem range values) (items_in problem.items range) []

  abbrev Goes : Searched → Searched → Type 0
  Goes = Step (Finds problem range values) (items_in problem.items range) []

  -- a step goes in one way
  step_one : (x y z : Searched) → Stands x → Goes x y → Goes x z → y ≡ z
  step_one x y z h s t =
      let both : s.place ∷ s.rest ≡ t.place ∷ t.rest = sym s.first ∙ t.first in
      let place : s.place ≡ t.place = cc in
      let partial : IsPartial (items_in problem.items range) t.place =
      place_partial problem stands range values [] start x z t h in
      let finding : s.finding ≡ t.finding =
      one problem stands range values x.best t.place partial s.finding t.finding
      (subst (λ p. Finds problem range values x.best p s.finding) place s.finds) t.finds in
      s.is ∙ (λ i. after (items_in problem.items range) (place i) (finding i) x) ∙ sym t.is

  -- and so do some steps
  steps_one : (n : ℕ) (x y z : Searched) → Stands x → Makes n x y → Makes n x z → y ≡ z
  steps_one zero x y z h s t = s ∙ sym t
  steps_one (suc n) x y z h s t =
      let before : s.0 ≡ t.0 = steps_one n x s.0 t.0 h s.1 t.1 in
      step_one t.0 y z (tree_steps problem stands range values [] start n x t.0 t.1 h)
      (subst (λ w. Goes w y) before s.2) t.2

  -- before the last of some steps there is a step after each number of them
  earlier : (m n : ℕ) (x z : Searched) → n < m → Makes m x z → (y : Searched) × Makes n x y × (w : Searched)
      × Goes y w
  earlier zero n x z lt s = absurd (omega arith)
  earlier (suc m) n x z lt s = by (cases_eq n m) (earlier m n x s.0)
    where
      by : (n ≡ m) ⊎ (n ≡ m → ⊥)
          → (n < m → Makes m x s.0 → (y : Searched) × Makes n x y × (w : Searched) × Goes y w)
          → (y : Searched) × Makes n x y × (w : Searched) × Goes y w
      by (inl same) before = (s.0, subst (λ k. Makes k x s.0) (sym same) s.1, z, s.2)
      by (inr other) before = before (omega (arith, other)) s.1

  module _ (best : Option ℕ) (budget : ℕ) where
    begins : Stands (begun_with best)
    begins = refl

    -- a search that ended early makes no more steps
    no_more : (end other : Searched) (s : IsSearch problem range values best budget end)
        → (t : IsSearch problem range values best budget other) → s.made < t.made → ⊥
    no_more end other s t less =
        let (y, steps, w, step) = earlier t.made s.made (begun_with best) other less t.steps in
        let same : y ≡ end = steps_one s.made (begun_with best) y end begins steps s.steps in
        let closed : has_open y.tree ≡ false =
        subst (λ (x : Searched). has_open x.tree ≡ false) (sym same)
        (s.fewer (omega (arith, less, t.within))) in
        let none = closed_places (goal_with y.best) [] y.tree
        (tree_steps problem stands range values [] start s.made (begun_with best) y steps begins) closed in
        let some : [] ≡ step.place ∷ step.rest = sym none ∙ step.first in cc

    -- a search ends in one way
    pub search_one : (end other : Searched) → IsSearch problem range values best budget end
        → IsSearch problem range values best budget other → end ≡ other
    search_one end other s t = by (cases_lt s.made t.made) (cases_lt t.made s.made)
      where
        by : (s.made < t.made) ⊎ (t.made ≤ s.made) → (t.made < s.made) ⊎ (s.made ≤ t.made) → end ≡ other
        by (inl less) also = absurd (no_more end other s t less)
        by (inr le) (inl less) = absurd (no_more other end t s less)
        by (inr le) (inr ge) =
            let same : s.made ≡ t.made = omega (arith, le, ge) in
            steps_one t.made (begun_with best) end other begins
            (subst (λ n. Makes n (begun_with best) end) same s.steps) t.steps
