-- A search over all items from a partial grouping: its tree and what it found stand after each step.
use Rattle.std.proofs.Common.{◌≡◌, ◌<◌, ◌++◌, ℕ, zero, suc, List, [], Bool, true, false, Option, None, Some, IfSome, cond, length, nat_lt, arith, refl, sym, ap, ◌∙◌, subst}
use Rattle.std.proofs.lemmas.Bool.{ltb-true}
use Rattle.pack_model.specs.declared.item.Item.{Item}
use Rattle.pack_model.specs.Problem.{Parts, IsProblem}
use Rattle.cert_text.specs.declared.parts.Tree.{Tree}
use Rattle.cert_text.specs.PlainTree.{plain_of}
use Rattle.cert_text.specs.Trees.{Plain}
use Rattle.grouping_tree.specs.Grouped.{labels_of}
use Rattle.grouping_tree.specs.Partial.{IsPartial}
use Rattle.bandwidth_bound.specs.Goals.{FailsIn, main_goal}
use Rattle.bandwidth_bound.specs.Prices.{lower8_of}
use Rattle.bandwidth_bound.specs.Trees.{TreeStands}
use Rattle.search_judge.specs.Findings.{Finds, FoundStands}
use Rattle.search_judge.specs.Judges.{IsJudge}
use Rattle.search_judge.specs.declared.judge.SearchJudge.{SearchJudge}
use Rattle.search_judge.proofs.Places.{open_at, place_partial, steps_over, tree_step}
use Rattle.search_judge.proofs.Shows.{complete_stands}
use Rattle.tree_search.specs.declared.finding.Finding.{Finding}
use Rattle.tree_search.specs.declared.finding.Finding.TheVariants.{Bounded, Failed, Complete, Parted}
use Rattle.tree_search.specs.declared.finding.Found.{Found}
use Rattle.tree_search.specs.declared.node.Node.{Node}
use Rattle.tree_search.specs.declared.search.Search.{Search}
use Rattle.tree_search.specs.Flat.{flat}
use Rattle.tree_search.specs.Open.{has_open}
use Rattle.tree_search.specs.Shown.{IsAt, agenda, items_of}
use Rattle.tree_search.specs.Sound.{IsNoWorse}
use Rattle.tree_search.specs.Step.{Searched, Step, Steps, found_after}
use Rattle.tree_search.specs.Walks.{EndsOpen}
use Rattle.tree_search.proofs.Standing.{no_worse-same, stands-lesser}
use Rattle.search_task.specs.declared.task.Task.{Task}
use Rattle.search_task.specs.Task.{IsTask, lesser, search_of, taken_over}

module _ (problem : Parts) (stands : IsProblem problem) (values : List ℕ) (from : List ℕ)
    (start : IsPartial problem.items from) where
  -- where a search from a partial grouping is
  pub record IsAlong (x : Searched) : Type 0 where
    pub tree : TreeStands (main_goal problem values x.best true) from x.tree
    pub found : IfSome x.found (FoundStands problem)

  -- what was found stands after each finding
  found_along : (best : Option ℕ) (p : List ℕ) (finding : Finding) (found : Option Found)
      → IsPartial problem.items p → Finds problem None values best p finding
      → IfSome found (FoundStands problem)
      → IfSome (found_after finding p found) (FoundStands problem)
  found_along best p Bounded found partial h is = is
  found_along best p (Failed named) found partial h is = is
  found_along best p (Complete load order) found partial h is =
      complete_stands problem stands values best p load order partial h
  found_along best p Parted found partial h is = is

  one_step : (x y : Searched) → Step (Finds problem None values) problem.items from x y → IsAlong x
      → IsAlong y
  one_step x y step along = record {
    tree = tree_step problem stands None values from start x y step along.tree;
    found = subst (λ (z : Searched). IfSome z.found (FoundStands problem)) (sym step.is)
        (found_along x.best step.place step.finding x.found
        (place_partial problem stands None values from start x y step along.tree) step.finds along.found);
  }

  pub steps_along : (n : ℕ) (x y : Searched) → Steps (Finds problem None values) problem.items from n x y
      → IsAlong x → IsAlong y
  steps_along zero x y steps along = subst IsAlong (sym steps) along
  steps_along (suc n) x y steps along = one_step steps.0 y steps.2 (steps_along n x steps.0 steps.1 along)

-- the lesser of two loads is no greater than the first
less_no_worse : (b : Bool) (load less : ℕ) → nat_lt less load ≡ b
    → IsNoWorse (Some load) (cond b (Some less) (Some load))
less_no_worse true load less e = let lt : less < load = ltb-true less load e in omega arith
less_no_worse false load less e = no_worse-same (Some load)

pub lesser_no_worse : (best other : Option ℕ) → IsNoWorse best (lesser best other)
lesser_no_worse None other = tt
lesser_no_worse (Some load) None = no_worse-same (Some load)
lesser_no_worse (Some load) (Some less) = less_no_worse (nat_lt less load) load less refl

-- a tree that stands for a best load stands for a lesser one
pub stands_over : (problem : Parts) (values from : List ℕ) (best other : Option ℕ) (t : Plain)
    → TreeStands (main_goal problem values best true) from t
    → TreeStands (main_goal problem values (lesser best other) true) from t
stands_over problem values from best other t h =
    stands-lesser problem.items (lower8_of problem values problem.items) (FailsIn problem None) true best
    (lesser best other) from t (lesser_no_worse best other) h

-- the steps of a judge over all items are those of what is found over them, of a task that holds what they
-- end with
pub steps_kept : (problem : Parts) (values : List ℕ) (items : List Item) (p q : List ℕ) (judge : SearchJudge)
    (made : ℕ) (x y z : Searched) → IsJudge problem None values judge → items ≡ problem.items → p ≡ q
    → Steps (Finds problem judge.range judge.values.items) items p made x y → z ≡ y
    → Steps (Finds problem None values) problem.items q made x z
steps_kept problem values items p q judge made x y z is same there steps kept =
    subst (λ (e : Searched). Steps (Finds problem None values) problem.items q made x e) (sym kept)
    (steps_over problem None values items p q judge made x y is same there steps)

-- no leaf of the task is open that holds what a search that is done is at
pub closed_at : (problem : Parts) (search : Search) (x : Searched) (new : Task) → IsAt problem search x
    → search_of new ≡ x → search.open ≡ false → has_open (plain_of new.tree) ≡ false
closed_at problem search x new at is closed =
    ap (λ (z : Searched). has_open z.tree) is ∙ open_at problem search x at ∙ closed

-- the nodes of its tree that are done come first
pub ends_at : (problem : Parts) (search : Search) (x : Searched) → IsAt problem search x
    → EndsOpen (flat x.tree)
ends_at problem search x at = record {
  closed = search.nodes.items;
  count = length (agenda (items_of problem search) search.base (labels_of search.partial) search.open);
  parts = at.shows.flat_is;
  are_closed = at.shows.closed;
}

-- the nodes of a tree that were put after none are those of the tree
pub nodes-of : (tree kept : Tree) (before nodes : List Node) → kept ≡ tree → before ≡ []
    → nodes ≡ before ++ flat (plain_of kept) → flat (plain_of tree) ≡ nodes
nodes-of tree kept before nodes same empty e =
    ap (λ (t : Tree). flat (plain_of t)) (sym same) ∙ ap (λ xs. xs ++ flat (plain_of kept)) (sym empty)
    ∙ sym e

-- a search is its tree, its best load and what it found
pub same_search : (tree : Plain) (best : Option ℕ) (found kept : Option Found) (x : Searched)
    → tree ≡ x.tree → x.best ≡ best → x.found ≡ found → kept ≡ found
    → record { tree = tree; best = best; found = kept } ≡ x
same_search tree best found kept x tree_is best_is found_is same =
    ap (λ t. record { tree = t; best = best; found = kept }) tree_is
    ∙ ap (λ b. record { tree = x.tree; best = b; found = kept }) (sym best_is)
    ∙ ap (λ f. record { tree = x.tree; best = x.best; found = f }) (same ∙ sym found_is)

-- what a search is at is a task again
pub is_task : (problem : Parts) (stands : IsProblem problem) (old new : Task) (search : Search)
    (best : Option ℕ)
    (made : ℕ) (y : Searched) → IsTask problem old → IsAt problem search y
    → Steps (Finds problem None old.lemmas.items) problem.items old.path.items made (taken_over old best) y
    → search_of new ≡ y → new.open ≡ search.open → new.path ≡ old.path → new.lemmas ≡ old.lemmas
    → IsTask problem new
is_task problem stands old new search best made y task at steps is opened path lemmas =
    let along =
    steps_along problem stands old.lemmas.items old.path.items task.path_stands made
    (taken_over old best) y steps (record {
      tree =
          stands_over problem old.lemmas.items old.path.items old.best best (plain_of old.tree) task.stands;
      found = task.found_stands;
    }) in
    let tree_is : plain_of new.tree ≡ y.tree = ap (λ (x : Searched). x.tree) is in
    let best_is : new.best ≡ y.best = ap (λ (x : Searched). x.best) is in
    let found_is : new.found ≡ y.found = ap (λ (x : Searched). x.found) is in
    record {
      path_stands = rw path task.path_stands;
      one_each = rw lemmas task.one_each;
      stands = rw (path, lemmas, tree_is, best_is) along.tree;
      nodes = rw tree_is (ends_at problem search y at);
      is_open = rw (tree_is, opened) (open_at problem search y at);
      found_stands = rw found_is along.found;
    }
