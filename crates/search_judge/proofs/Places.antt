-- The places of a search: partial groupings, at which its tree stands after each step.
use Rattle.std.proofs.Common.{◌≡◌, ◌≤◌, ℕ, zero, suc, List, [], ◌∷◌, ◌++◌, length, All, arith, Bool, true, false, Option, None, refl, sym, ap, ◌∙◌, subst}
use Rattle.std.proofs.lemmas.List.Elements.{All-append, All-cons, All-head, All-nil, All-tail}
use Rattle.pack_model.specs.declared.item.Item.{Item}
use Rattle.pack_model.specs.Problem.{Parts, IsProblem}
use Rattle.cert_text.specs.Trees.{Plain, Plains, bound, fail, inner, left, more, none}
use Rattle.grouping_tree.specs.Grouped.{items_in, labels_of}
use Rattle.grouping_tree.specs.Partial.{IsPartial, options_of}
use Rattle.grouping_tree.proofs.Puts.{options-legal}
use Rattle.bandwidth_bound.specs.Goals.{FailsIn, eighths, range_goal}
use Rattle.bandwidth_bound.specs.Prices.{lower8_of}
use Rattle.bandwidth_bound.specs.Trees.{EachStands, Goal, TreeStands, open_places, open_places_each}
use Rattle.tree_search.specs.declared.search.Search.{Search}
use Rattle.tree_search.specs.Open.{any_goal, has_open}
use Rattle.tree_search.specs.Shown.{IsAt, agenda, items_of, start_of}
use Rattle.tree_search.specs.Step.{Searched, Step, Steps}
use Rattle.tree_search.proofs.Firsts.{has_open-is, is_more}
use Rattle.tree_search.proofs.Standing.{step-stands}
use Rattle.search_judge.specs.declared.judge.SearchJudge.{SearchJudge}
use Rattle.search_judge.specs.Findings.{Finds}
use Rattle.search_judge.specs.Judges.{IsJudge, JudgesOver}
use Rattle.search_judge.proofs.Shows.{shows}

-- the open places of a tree that stands at a partial grouping are partial groupings
module _ (g : Goal) where
  mutual
    places_partial : (p : List ℕ) (t : Plain) → IsPartial g.items p → TreeStands g p t
        → All (IsPartial g.items) (open_places g.items p t)
    places_partial p (inner ts) partial h =
        each_partial p (options_of g.items p) ts (options-legal g.items p partial) h.1
    places_partial p bound partial h = All-nil (IsPartial g.items)
    places_partial p left partial h = All-cons (IsPartial g.items) p [] partial (All-nil (IsPartial g.items))
    places_partial p (fail named) partial h = All-nil (IsPartial g.items)

    each_partial : (p ls : List ℕ) (ts : Plains) → All (λ l. IsPartial g.items (p ++ l ∷ [])) ls
        → EachStands g p ls ts → All (IsPartial g.items) (open_places_each g.items p ls ts)
    each_partial p [] ts legal h = All-nil (IsPartial g.items)
    each_partial p (l ∷ ls) none legal h = absurd h
    each_partial p (l ∷ ls) (more t ts) legal h =
        All-append (IsPartial g.items) (open_places g.items (p ++ l ∷ []) t) (open_places_each g.items p ls ts)
        (places_partial (p ++ l ∷ []) t (All-head (λ l. IsPartial g.items (p ++ l ∷ [])) l ls legal) h.0)
        (each_partial p ls ts (All-tail (λ l. IsPartial g.items (p ++ l ∷ [])) l ls legal) h.1)

module _ (problem : Parts) (stands : IsProblem problem) (range : Option ℕ) (values from : List ℕ)
    (start : IsPartial (items_in problem.items range) from) where
  -- the tree of a search over a range stands, where leaves may be open
  abbrev TreeOf : Searched → Type 0
  TreeOf x = TreeStands (range_goal problem range values (eighths x.best) true) from x.tree

  -- the place of a step is a partial grouping
  pub place_partial : (x y : Searched)
      (step : Step (Finds problem range values) (items_in problem.items range) from x y) → TreeOf x
      → IsPartial (items_in problem.items range) step.place
  place_partial x y step h =
      All-head (IsPartial (items_in problem.items range)) step.place step.rest
      (subst (All (IsPartial (items_in problem.items range))) step.first
      (places_partial (range_goal problem range values (eighths x.best) true) from x.tree start h))

  -- its tree stands
  pub tree_step : (x y : Searched) → Step (Finds problem range values) (items_in problem.items range) from x y
      → TreeOf x → TreeOf y
  tree_step x y step h =
      let next =
      step-stands (items_in problem.items range) (lower8_of problem values (items_in problem.items range))
      (FailsIn problem range)
      (λ best p finding. IsPartial (items_in problem.items range) p × Finds problem range values best p finding) from
      (λ best p finding f. shows problem stands range values best p f.0 finding f.1) x y
      (record {
        place = step.place;
        rest = step.rest;
        first = step.first;
        finding = step.finding;
        finds = (place_partial x y step h, step.finds);
        is = step.is;
      }) h in
      next.0

  -- and so it does after some steps
  pub tree_steps : (n : ℕ) (x y : Searched)
      → Steps (Finds problem range values) (items_in problem.items range) from n x y → TreeOf x → TreeOf y
  tree_steps zero x y steps h = subst TreeOf (sym steps) h
  tree_steps (suc n) x y steps h = tree_step steps.0 y steps.2 (tree_steps n x steps.0 steps.1 h)

none_open : (ps : List (List ℕ)) → is_more ps ≡ false → ps ≡ []
none_open [] e = refl
none_open (p ∷ ps) e = cc

some_open : (ps : List (List ℕ)) → is_more ps ≡ true → 1 ≤ length ps
some_open [] e = cc
some_open (p ∷ ps) e = omega arith

module _ (g : Goal) (p : List ℕ) (t : Plain) (h : TreeStands g p t) where
  -- where no leaf is open there is no open place
  pub closed_places : has_open t ≡ false → open_places g.items p t ≡ []
  closed_places e = none_open (open_places g.items p t) (sym (has_open-is g p t h) ∙ e)

  -- and where one is, there is one
  pub opened_places : has_open t ≡ true → 1 ≤ length (open_places g.items p t)
  opened_places e = some_open (open_places g.items p t) (sym (has_open-is g p t h) ∙ e)

-- some place is open where a search is not done
agenda_more : (items : List Item) (base : ℕ) (labels : List ℕ) (is_open : Bool)
    → is_more (agenda items base labels is_open) ≡ is_open
agenda_more items base labels true = refl
agenda_more items base labels false = refl

-- some leaf of its tree is open then
pub open_at : (problem : Parts) (search : Search) (x : Searched) → IsAt problem search x
    → has_open x.tree ≡ search.open
open_at problem search x at =
    has_open-is (any_goal (items_of problem search)) (start_of search) x.tree at.shows.options
    ∙ ap is_more at.shows.open_are
    ∙ agenda_more (items_of problem search) search.base (labels_of search.partial) search.open

-- what was found may be taken away
pub taken_at : (problem : Parts) (old new : Search) (x : Searched) → new ≡ record old { found = None }
    → IsAt problem old x → IsAt problem new (record x { found = None })
taken_at problem old new x is at =
    subst (λ (s : Search). IsAt problem s (record x { found = None })) (sym is)
    (record { shows = at.shows; best = at.best; found = refl })

-- a judge over a range judges places over its items
pub judges_over : (problem : Parts) (range : Option ℕ) (values : List ℕ) (items : List Item)
    (judge : SearchJudge) → IsJudge problem range values judge → items ≡ items_in problem.items range
    → JudgesOver problem items judge
judges_over problem range values items judge is are = record {
  judge_is = subst (λ r. IsJudge problem r judge.values.items judge) (sym is.range_is)
      (subst (λ vs. IsJudge problem range vs judge) (sym is.values_are) is);
  items_are = are ∙ ap (items_in problem.items) (sym is.range_is);
}

-- its steps are those of what is found over them
pub steps_over : (problem : Parts) (range : Option ℕ) (values : List ℕ) (items : List Item) (p q : List ℕ)
    (judge : SearchJudge) (made : ℕ) (x y : Searched) → IsJudge problem range values judge
    → items ≡ items_in problem.items range → p ≡ q
    → Steps (Finds problem judge.range judge.values.items) items p made x y
    → Steps (Finds problem range values) (items_in problem.items range) q made x y
steps_over problem range values items p q judge made x y is are there steps =
    let own : List Item = items_in problem.items range in
    subst (λ r. Steps (Finds problem range values) own r made x y) there
    (subst (λ (xs : List Item). Steps (Finds problem range values) xs p made x y) are
    (subst (λ vs. Steps (Finds problem range vs) items p made x y) is.values_are
    (subst (λ r. Steps (Finds problem r judge.values.items) items p made x y) is.range_is steps)))
