-- Steps and trimming keep a standing tree.
use Rattle.std.proofs.Common.{◌≡◌, ◌≤◌, ◌*◌, ℕ, zero, suc, List, [], ◌∷◌, ◌++◌, length, Bool, true, false, cond, Option, Some, None, refl, arith}
use Rattle.std.specs.Prelude.{nat_le}
use Rattle.std.proofs.lemmas.Bool.{leb-true}
use Rattle.pack_model.specs.declared.item.Item.{Item}
use Rattle.response_test.specs.declared.evidence.Evidence.{Evidence}
use Rattle.cert_text.specs.Trees.{Plain, Plains, bound, fail, inner, left, more, none}
use Rattle.grouping_tree.specs.Partial.{options_of}
use Rattle.bandwidth_bound.specs.Bounds.{Reaches}
use Rattle.bandwidth_bound.specs.Trees.{EachStands, Goal, TreeStands, open_places, open_places_each}
use Rattle.tree_search.specs.declared.finding.Finding.{Finding}
use Rattle.tree_search.specs.declared.finding.Finding.TheVariants.{Bounded, Failed, Complete, Parted}
use Rattle.tree_search.specs.Open.{HasOptions}
use Rattle.bandwidth_bound.specs.Goals.{eighths}
use Rattle.tree_search.specs.Sound.{IsNoWorse, Shown, goal_of}
use Rattle.tree_search.specs.Step.{Searched, Step, Steps, best_after, leaf_after}
use Rattle.tree_search.specs.Trim.{reaches, trim, trim_each}
use Rattle.tree_search.proofs.Firsts.{stand-lefts, stands-put_first}

-- a tree that stands for one goal stands for another over the same items, where each leaf that stands for the
-- one does for the other
module _ (g : Goal) (lower8 : List ℕ → ℕ) (value : Option ℕ) (may_leave : Bool)
    (AreFailing : List ℕ → List (ℕ × Evidence) → Type 0)
    (bounds : (p : List ℕ) → Reaches g.value (g.lower8 p) → Reaches value (lower8 p))
    (leaves : g.may_leave ≡ true → may_leave ≡ true)
    (fails : (p : List ℕ) (named : List (ℕ × Evidence)) → g.AreFailing p named → AreFailing p named) where
  abbrev other : Goal
  other =
      record {
        items = g.items;
        lower8 = lower8;
        value = value;
        may_leave = may_leave;
        AreFailing = AreFailing;
      }

  mutual
    pub stands-along : (p : List ℕ) (t : Plain) → TreeStands g p t → TreeStands other p t
    stands-along p (inner ts) h = (h.0, stand-along p (options_of g.items p) ts h.1)
    stands-along p bound h = bounds p h
    stands-along p left h = leaves h
    stands-along p (fail named) h = fails p named h

    stand-along : (p ls : List ℕ) (ts : Plains) → EachStands g p ls ts → EachStands other p ls ts
    stand-along p [] none h = h
    stand-along p [] (more t ts) h = absurd h
    stand-along p (l ∷ ls) none h = absurd h
    stand-along p (l ∷ ls) (more t ts) h = (stands-along (p ++ l ∷ []) t h.0, stand-along p ls ts h.1)

-- a standing tree has a subtree for each option
pub has_options : (g : Goal) (p : List ℕ) (t : Plain) → TreeStands g p t → HasOptions g.items p t
has_options g p t h =
    stands-along g (λ p. 0) (Some 0) true (λ p named. Unit {0}) (λ p r. omega arith) (λ e. refl)
    (λ p named f. tt) p t h

-- one without open leaves stands where none may be open too
module _ (g : Goal) where
  abbrev closed_goal : Goal
  closed_goal =
      record {
        items = g.items;
        lower8 = g.lower8;
        value = g.value;
        may_leave = false;
        AreFailing = g.AreFailing;
      }

  first_nil : (xs ys : List (List ℕ)) → xs ++ ys ≡ [] → xs ≡ []
  first_nil [] ys e = refl
  first_nil (x ∷ xs) ys e = cc

  second_nil : (xs ys : List (List ℕ)) → xs ++ ys ≡ [] → ys ≡ []
  second_nil [] ys e = e
  second_nil (x ∷ xs) ys e = cc

  mutual
    pub stands-closed : (p : List ℕ) (t : Plain) → open_places g.items p t ≡ [] → TreeStands g p t
        → TreeStands closed_goal p t
    stands-closed p (inner ts) e h = (h.0, stand-closed p (options_of g.items p) ts e h.1)
    stands-closed p bound e h = h
    stands-closed p left e h = cc
    stands-closed p (fail named) e h = h

    stand-closed : (p ls : List ℕ) (ts : Plains) → open_places_each g.items p ls ts ≡ []
        → EachStands g p ls ts → EachStands closed_goal p ls ts
    stand-closed p [] none e h = h
    stand-closed p [] (more t ts) e h = absurd h
    stand-closed p (l ∷ ls) none e h = absurd h
    stand-closed p (l ∷ ls) (more t ts) e h =
        let here = open_places g.items (p ++ l ∷ []) t in
        let after = open_places_each g.items p ls ts in (
          stands-closed (p ++ l ∷ []) t (first_nil here after e) h.0,
          stand-closed p ls ts (second_nil here after e) h.1,
        )

-- a bound that reaches a best load reaches a lesser one
reaches-lesser : (best new : Option ℕ) (bound8 : ℕ) → IsNoWorse best new → Reaches (eighths best) bound8
    → Reaches (eighths new) bound8
reaches-lesser None new bound8 le h = absurd h
reaches-lesser (Some old) None bound8 le h = absurd le
reaches-lesser (Some old) (Some less) bound8 le h =
    let reached_old : 8 * old ≤ bound8 = h in
    let less_le : less ≤ old = le in
    let reached_less : 8 * less ≤ bound8 = omega arith in reached_less

pub no_worse-same : (best : Option ℕ) → IsNoWorse best best
no_worse-same None = tt
no_worse-same (Some load) = omega arith

pub no_worse-trans : (a b c : Option ℕ) → IsNoWorse a b → IsNoWorse b c → IsNoWorse a c
no_worse-trans None b c h k = tt
no_worse-trans (Some x) None c h k = absurd h
no_worse-trans (Some x) (Some y) None h k = absurd k
no_worse-trans (Some x) (Some y) (Some z) h k = omega arith

module _ (items : List Item) (lower8 : List ℕ → ℕ) (AreFailing : List ℕ → List (ℕ × Evidence) → Type 0) where
  -- a tree stands for a lesser best too
  pub stands-lesser : (may_leave : Bool) (best new : Option ℕ) (p : List ℕ) (t : Plain) → IsNoWorse best new
      → TreeStands (goal_of items lower8 AreFailing may_leave best) p t
      → TreeStands (goal_of items lower8 AreFailing may_leave new) p t
  stands-lesser may_leave best new p t le h =
      stands-along (goal_of items lower8 AreFailing may_leave best) lower8 (eighths new) may_leave AreFailing
      (λ q r. reaches-lesser best new (lower8 q) le r) (λ e. e) (λ q named f. f) p t h

  -- what becomes of a leaf stands, and the best gets no worse
  leaf-stands : (best : Option ℕ) (p : List ℕ) (finding : Finding)
      → Shown items lower8 AreFailing best p finding
      → TreeStands (goal_of items lower8 AreFailing true (best_after finding best)) p
      (leaf_after finding (length (options_of items p)))
      × IsNoWorse best (best_after finding best)
  leaf-stands best p Bounded h = (h, no_worse-same best)
  leaf-stands best p (Failed named) h = (h, no_worse-same best)
  leaf-stands best p (Complete load order) h = (h.0, h.1)
  leaf-stands best p Parted h = (
    (h, stand-lefts (goal_of items lower8 AreFailing true best) p (options_of items p) refl),
    no_worse-same best,
  )

  module _ (Finds : Option ℕ → List ℕ → Finding → Type 0) (from : List ℕ)
      (sound : (best : Option ℕ) (p : List ℕ) (finding : Finding) → Finds best p finding
      → Shown items lower8 AreFailing best p finding) where
    -- a step of what shows what it says keeps a standing tree, and its best gets no worse
    pub step-stands : (x y : Searched) → Step Finds items from x y
        → TreeStands (goal_of items lower8 AreFailing true x.best) from x.tree
        → TreeStands (goal_of items lower8 AreFailing true y.best) from y.tree × IsNoWorse x.best y.best
    step-stands x y step h =
        let leaf =
        leaf-stands x.best step.place step.finding (sound x.best step.place step.finding step.finds) in
        let best = best_after step.finding x.best in
        let goal = goal_of items lower8 AreFailing true best in
        rw step.is (
          stands-put_first goal from x.tree (leaf_after step.finding (length (options_of items step.place)))
              (stands-lesser true x.best best from x.tree leaf.1 h) (rw step.first leaf.0),
          leaf.1,
        )

    -- and so do some steps
    pub steps-stand : (n : ℕ) (x y : Searched) → Steps Finds items from n x y
        → TreeStands (goal_of items lower8 AreFailing true x.best) from x.tree
        → TreeStands (goal_of items lower8 AreFailing true y.best) from y.tree × IsNoWorse x.best y.best
    steps-stand zero x y steps h = rw steps (h, no_worse-same x.best)
    steps-stand (suc n) x y steps h =
        let z = steps.0 in
        let before = steps-stand n x z steps.1 h in
        let last = step-stands z y steps.2 before.0 in
        (last.0, no_worse-trans x.best z.best y.best before.1 last.1)

-- a value that a bound reaches by the test
reached : (value n : ℕ) → nat_le value n ≡ true → value ≤ n
reached value n e = leb-true value n e

-- trimming keeps a standing tree
module _ (g : Goal) (value : ℕ) (is : g.value ≡ Some value) where
  stands-cond : (b : Bool) (p : List ℕ) (t u : Plain) → (b ≡ true → TreeStands g p t) → TreeStands g p u
      → TreeStands g p (cond b t u)
  stands-cond true p t u f h = f refl
  stands-cond false p t u f h = h

  mutual
    pub stands-trim : (p : List ℕ) (t : Plain) → TreeStands g p t
        → TreeStands g p (trim g.items (reaches g.lower8 value) p t)
    stands-trim p (inner ts) h =
        stands-cond (reaches g.lower8 value p) p bound
        (inner (trim_each g.items (reaches g.lower8 value) p (options_of g.items p) ts))
        (λ e. rw is (reached value (g.lower8 p) e)) (h.0, stand-trim p (options_of g.items p) ts h.1)
    stands-trim p bound h = h
    stands-trim p left h = h
    stands-trim p (fail named) h = h

    stand-trim : (p ls : List ℕ) (ts : Plains) → EachStands g p ls ts
        → EachStands g p ls (trim_each g.items (reaches g.lower8 value) p ls ts)
    stand-trim p [] ts h = h
    stand-trim p (l ∷ ls) none h = absurd h
    stand-trim p (l ∷ ls) (more t ts) h = (stands-trim (p ++ l ∷ []) t h.0, stand-trim p ls ts h.1)
