-- Steps of the code are steps of the definition.
use Rattle.std.proofs.Common.{◌≡◌, ◌<◌, ℕ, zero, suc, ◌+◌, List, [], ◌∷◌, ◌++◌, length, replicate, true, Option, refl, sym, ap, ◌∙◌, add-one, add-suc, add-zero, arith}
use Rattle.std.proofs.lemmas.List.{length-map}
use Rattle.pack_model.specs.declared.item.Item.{Item}
use Rattle.pack_model.specs.Problem.{Parts}
use Rattle.cert_text.specs.Trees.{Plain}
use Rattle.grouping_tree.specs.Grouped.{labels_of}
use Rattle.grouping_tree.specs.Partial.{options_of}
use Rattle.grouping_tree.specs.Walk.{places_below, places_left}
use Rattle.tree_search.specs.declared.finding.Finding.{Finding}
use Rattle.tree_search.specs.declared.finding.Finding.TheVariants.{Bounded, Failed, Complete, Parted}
use Rattle.tree_search.specs.declared.finding.Found.{Found}
use Rattle.tree_search.specs.declared.node.Node.{Node}
use Rattle.tree_search.specs.declared.node.Node.TheVariants.{Inner, Bound, Left, Fail}
use Rattle.tree_search.specs.declared.search.Search.{Search}
use Rattle.tree_search.specs.Flat.{flat_each}
use Rattle.tree_search.specs.Going.{Holds, IsOn, places_on}
use Rattle.tree_search.specs.Open.{any_goal, lefts, put_first}
use Rattle.tree_search.specs.Shown.{GoesOn, IsAt, Shows, items_of, start_of}
use Rattle.tree_search.specs.Step.{Searched, Step, Steps, after, best_after, found_after, leaf_after}
use Rattle.tree_search.proofs.Firsts.{count-lefts, flat-lefts, open-lefts, shows-more, stand-lefts}

-- the node that becomes of an open leaf with so many options
abbrev pub node_after : Finding → ℕ → Node
node_after Bounded n = Bound
node_after (Failed named) n = Fail named
node_after (Complete load order) n = Bound
node_after Parted n = Inner n

-- the places that it opens
abbrev pub opens_after : List Item → List ℕ → Finding → List (List ℕ)
opens_after items p Bounded = []
opens_after items p (Failed named) = []
opens_after items p (Complete load order) = []
opens_after items p Parted = places_below items p

-- what becomes of the first open leaf, its node first
shows-after : (items : List Item) (from : List ℕ) (nodes : List Node) (p : List ℕ) (rest : List (List ℕ))
    (t : Plain) (finding : Finding)
    → (finding ≡ Parted → length p < length items)
    → Shows items from nodes (p ∷ rest) t
    → Shows items from (nodes ++ node_after finding (length (options_of items p)) ∷ [])
    (opens_after items p finding ++ rest)
    (put_first (leaf_after finding (length (options_of items p))) t)
shows-after items from nodes p rest t Bounded some h =
    shows-more items from nodes p rest [] Bound t _ h tt refl refl (omega arith)
shows-after items from nodes p rest t (Failed named) some h =
    shows-more items from nodes p rest [] (Fail named) t _ h tt refl refl tt
shows-after items from nodes p rest t (Complete load order) some h =
    shows-more items from nodes p rest [] Bound t _ h tt refl refl (omega arith)
shows-after items from nodes p rest t Parted some h =
    let ls = options_of items p in
    let n = length ls in
    shows-more items from nodes p rest (places_below items p) (Inner n) t _ h tt
    (ap (λ m. Inner m ∷ flat_each (lefts n)) (count-lefts n)
    ∙ ap (λ xs. Inner n ∷ xs)
    (flat-lefts n ∙ ap (λ m. replicate m Left) (sym (length-map ls (λ l. p ++ l ∷ [])))))
    (open-lefts items p ls) (some refl, stand-lefts (any_goal items) p ls refl)

-- what is held then
pub held-after : (items : List Item) (from : List ℕ) (nodes : List Node) (p : List ℕ) (rest : List (List ℕ))
    (finding : Finding) (best : Option ℕ) (found : Option Found) (x : Searched)
    → (finding ≡ Parted → length p < length items)
    → Holds items from nodes (p ∷ rest) best found x
    → Holds items from (nodes ++ node_after finding (length (options_of items p)) ∷ [])
    (opens_after items p finding ++ rest) (best_after finding best) (found_after finding p found)
    (after items p finding x)
held-after items from nodes p rest finding best found x some h = record {
  shows = shows-after items from nodes p rest x.tree finding some h.shows;
  same_best = ap (best_after finding) h.same_best;
  same_found = ap (found_after finding p) h.same_found;
}

-- and that is a step
pub held-step : (Finds : Option ℕ → List ℕ → Finding → Type 0) (items : List Item) (from : List ℕ)
    (nodes : List Node) (p : List ℕ) (rest : List (List ℕ)) (finding : Finding) (best : Option ℕ)
    (found : Option Found) (x : Searched)
    → Holds items from nodes (p ∷ rest) best found x → Finds best p finding
    → Step Finds items from x (after items p finding x)
held-step Finds items from nodes p rest finding best found x h finds = record {
  place = p;
  rest = rest;
  first = h.shows.open_are;
  finding = finding;
  finds = rw h.same_best finds;
  is = refl;
}

-- what a search holds at its open leaf
pub held-open : (problem : Parts) (search : Search) (x : Searched) → IsAt problem search x
    → search.open ≡ true
    → Holds (items_of problem search) (start_of search) search.nodes.items
    (labels_of search.partial
    ∷ places_left (items_of problem search) search.base (labels_of search.partial))
    search.best search.found x
held-open problem search x at is_open =
    record { shows = rw is_open at at.shows; same_best = at.best; same_found = at.found }

-- what is found at the open leaf became of it
pub settled : (problem : Parts) (old new : Search) (finding given : Finding) (from : Option ℕ) (x : Searched)
    → IsAt problem old x → old.open ≡ true → given ≡ finding → GoesOn problem old new
    → (finding ≡ Parted → length (labels_of old.partial) < length (items_of problem old))
    → new.nodes.items ≡ old.nodes.items
    ++ node_after finding (length (options_of (items_of problem old) (labels_of old.partial))) ∷ []
    → places_on (items_of problem old) old.base (labels_of new.partial) from
    ≡ opens_after (items_of problem old) (labels_of old.partial) finding
    ++ places_left (items_of problem old) old.base (labels_of old.partial)
    → new.best ≡ best_after finding old.best
    → new.found ≡ found_after finding (labels_of old.partial) old.found
    → IsOn problem new from (after (items_of problem old) (labels_of old.partial) given x)
settled problem old new finding given from x at is_open is on some nodes rest best found =
    let p = labels_of old.partial in
    let items = items_of problem old in
    let held =
    held-after items (start_of old) old.nodes.items p (places_left items old.base p) finding old.best old.found x
    some (held-open problem old x at is_open) in
    rw (is, on.items, on.start, on.base, nodes, rest, best, found) held

-- where what is found may be found by another judge too, a step of one is a step of the other
pub step-wider : (Finds Others : Option ℕ → List ℕ → Finding → Type 0) (items : List Item) (from : List ℕ)
    (x y : Searched)
    → ((best : Option ℕ) (p : List ℕ) (finding : Finding) → Finds best p finding → Others best p finding)
    → Step Finds items from x y → Step Others items from x y
step-wider Finds Others items from x y wider step = record {
  place = step.place;
  rest = step.rest;
  first = step.first;
  finding = step.finding;
  finds = wider x.best step.place step.finding step.finds;
  is = step.is;
}

-- so many steps and one more
pub steps-one_more : (Finds : Option ℕ → List ℕ → Finding → Type 0) (items : List Item) (from : List ℕ)
    (n : ℕ) (x y z : Searched)
    → Steps Finds items from n x y → Step Finds items from y z → Steps Finds items from (n + 1) x z
steps-one_more Finds items from n x y z steps step = rw (add-one n) (y, steps, step)

-- some steps and then others
pub steps-append : (Finds : Option ℕ → List ℕ → Finding → Type 0) (items : List Item) (from : List ℕ)
    (m n : ℕ) (x y z : Searched)
    → Steps Finds items from m x y → Steps Finds items from n y z → Steps Finds items from (m + n) x z
steps-append Finds items from m zero x y z before after = rw (add-zero m, after) before
steps-append Finds items from m (suc n) x y z before after =
    rw (add-suc m n) (after.0, steps-append Finds items from m n x y after.0 before after.1, after.2)

-- a step and then so many
pub steps-one_first : (Finds : Option ℕ → List ℕ → Finding → Type 0) (items : List Item) (from : List ℕ)
    (n : ℕ) (x y z : Searched)
    → Step Finds items from x y → Steps Finds items from n y z → Steps Finds items from (n + 1) x z
steps-one_first Finds items from n x y z first rest =
    let e : n + 1 ≡ 1 + n = omega arith in
    rw e (steps-append Finds items from 1 n x y z (x, refl, first) rest)

-- a step over items and from a start that are the same ones, of another judge that may find the same
pub step-back : (Finds Others : List Item → Option ℕ → List ℕ → Finding → Type 0) (items items' : List Item)
    (from from' : List ℕ) (x y : Searched)
    → items' ≡ items → from' ≡ from
    → ((best : Option ℕ) (p : List ℕ) (finding : Finding) → Finds items best p finding
    → Others items best p finding)
    → Step (Finds items') items' from' x y → Step (Others items) items from x y
step-back Finds Others items items' from from' x y e f wider step =
    step-wider (Finds items) (Others items) items from x y wider (rw (e, f) at step)

-- so are so many steps
pub steps-back : (Finds Others : List Item → Option ℕ → List ℕ → Finding → Type 0) (items items' : List Item)
    (from from' : List ℕ) (n : ℕ) (x y : Searched)
    → items' ≡ items → from' ≡ from
    → ((best : Option ℕ) (p : List ℕ) (finding : Finding) → Finds items best p finding
    → Others items best p finding)
    → Steps (Finds items') items' from' n x y → Steps (Others items) items from n x y
steps-back Finds Others items items' from from' zero x y e f wider steps = steps
steps-back Finds Others items items' from from' (suc n) x y e f wider steps = (
  steps.0,
  steps-back Finds Others items items' from from' n x steps.0 e f wider steps.1,
  step-back Finds Others items items' from from' steps.0 y e f wider steps.2,
)
