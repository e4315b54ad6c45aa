-- How a search goes on to its next open leaf.
use Rattle.std.proofs.Common.{◌≡◌, ℕ, ◌+◌, ◌<◌, ◌≤◌, List, [], ◌∷◌, ◌++◌, length, true, false, Option, None, Some, sym, ap, ◌∙◌, arith}
use Rattle.std.specs.Prelude.{MatchOption}
use Rattle.pack_model.specs.declared.item.Item.{Item}
use Rattle.pack_model.specs.Problem.{Parts}
use Rattle.grouping_tree.specs.Grouped.{labels_of}
use Rattle.grouping_tree.specs.Walk.{options_from, places_left, with_each}
use Rattle.grouping_tree.proofs.Walks.{left-next, left-push}
use Rattle.tree_search.specs.declared.finding.Finding.{Finding}
use Rattle.tree_search.specs.declared.finding.Finding.TheVariants.{Bounded}
use Rattle.tree_search.specs.declared.finding.Found.{Found}
use Rattle.tree_search.specs.declared.node.Node.{Node}
use Rattle.tree_search.specs.declared.node.Node.TheVariants.{Bound}
use Rattle.tree_search.specs.declared.search.Search.{Search}
use Rattle.tree_search.specs.Going.{Holds, places_at, places_on}
use Rattle.tree_search.specs.Shown.{GoesOn, IsAt, items_of, start_of}
use Rattle.tree_search.specs.Step.{Searched, Steps, after}
use Rattle.tree_search.proofs.Steps.{held-after, held-step, steps-one_more}

-- back at a place the options after the one that is taken back come next
pub back-places : (items : List Item) (base : ℕ) (p q : List ℕ) (l last : ℕ) → p ≡ q ++ l ∷ [] → last ≡ l
    → base ≤ length q → places_on items base q (Some (last + 1)) ≡ places_left items base p
back-places items base p q l last is same le =
    ap (λ m. with_each q (options_from items q (m + 1)) ++ places_left items base q) same
    ∙ sym (left-push items base q l le) ∙ ap (places_left items base) (sym is)

-- how often a search can still go back
abbrev pub more_of : Option ℕ → ℕ → ℕ
more_of None n = 0
more_of (Some from) n = n + 1

pub more-less : (X : Type 0) (next : Option ℕ) (m n : ℕ) → MatchOption next X (λ from. m < n)
    → more_of next m < n + 1
more-less X None m n h = omega arith
more-less X (Some from) m n h = omega arith

module _ (Finds : Option ℕ → List ℕ → Finding → Type 0) (items : List Item) (start labels : List ℕ) (base : ℕ)
    (best : Option ℕ) (found : Option Found) where
  -- a bounded option is passed
  pub passed-more : (nodes nodes' : List Node) (next label made : ℕ) (x : Searched)
      → options_from items labels next ≡ label ∷ options_from items labels (label + 1)
      → Finds best (labels ++ label ∷ []) Bounded
      → nodes' ≡ nodes ++ Bound ∷ []
      → ((y : Searched) × Steps Finds items start made x y
      × Holds items start nodes (places_on items base labels (Some next)) best found y)
      → (z : Searched) × Steps Finds items start (made + 1) x z
      × Holds items start nodes' (places_on items base labels (Some (label + 1))) best found z
  passed-more nodes nodes' next label made x option finds pushed h =
      let p = labels ++ label ∷ [] in
      let rest = places_on items base labels (Some (label + 1)) in
      let held : Holds items start nodes (p ∷ rest) best found h.0 = rw option at h.2 in (
        after items p Bounded h.0,
        steps-one_more Finds items start made x h.0 (after items p Bounded h.0) h.1
            (held-step Finds items start nodes p rest Bounded best found h.0 held finds),
        rw pushed (held-after items start nodes p rest Bounded best found h.0 (λ e. cc) held),
      )

  -- the pass ends at an option, or where none is left
  pub passed-to : (nodes : List Node) (next label : ℕ) (y : Searched)
      → options_from items labels next ≡ label ∷ options_from items labels (label + 1) → base ≤ length labels
      → Holds items start nodes (places_on items base labels (Some next)) best found y
      → Holds items start nodes (places_at items base labels (Some label)) best found y
  passed-to nodes next label y option le h = rw (left-next items base labels label next le option) at h

  pub passed-all : (nodes : List Node) (next : ℕ) (y : Searched) → options_from items labels next ≡ []
      → Holds items start nodes (places_on items base labels (Some next)) best found y
      → Holds items start nodes (places_at items base labels None) best found y
  passed-all nodes next y none h = rw none at h

-- the search is at the option then
pub went-to : (problem : Parts) (first new : Search) (labels : List ℕ) (option : ℕ) (y : Searched)
    → GoesOn problem first new → new.open ≡ true → new.best ≡ first.best → new.found ≡ first.found
    → labels_of new.partial ≡ labels ++ option ∷ []
    → Holds (items_of problem first) (start_of first) new.nodes.items
    (places_at (items_of problem first) first.base labels (Some option)) first.best first.found y
    → IsAt problem new y
went-to problem first new labels option y on is_open best found put h = record {
  shows = rw (on.items, on.start, on.base, is_open, put) h.shows;
  best = h.same_best ∙ sym best;
  found = h.same_found ∙ sym found;
}

-- or it is done
pub went-out : (problem : Parts) (first new : Search) (next : Option ℕ) (y : Searched)
    → GoesOn problem first new → new.open ≡ false → new.best ≡ first.best → new.found ≡ first.found
    → next ≡ None
    → Holds (items_of problem first) (start_of first) new.nodes.items
    (places_on (items_of problem first) first.base (labels_of new.partial) next) first.best first.found y
    → IsAt problem new y
went-out problem first new next y on is_open best found none h = record {
  shows = rw (on.items, on.start, on.base, is_open) (rw none at h.shows);
  best = h.same_best ∙ sym best;
  found = h.same_found ∙ sym found;
}
