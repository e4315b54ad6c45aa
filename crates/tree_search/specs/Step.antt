-- The search step: what is found at the first open leaf of a tree, and what becomes of it.
use Rattle.std.specs.Prelude.{◌≡◌, ℕ, zero, suc, List, ◌∷◌, length, Option, Some}
use Rattle.pack_model.specs.declared.item.Item.{Item}
use Rattle.cert_text.specs.Trees.{Plain, bound, fail, inner}
use Rattle.grouping_tree.specs.Partial.{options_of}
use Rattle.bandwidth_bound.specs.Trees.{open_places}
use Rattle.tree_search.specs.declared.finding.Finding.{Finding}
use Rattle.tree_search.specs.declared.finding.Finding.TheVariants.{Bounded, Failed, Complete, Parted}
use Rattle.tree_search.specs.declared.finding.Found.{Found}
use Rattle.tree_search.specs.Open.{lefts, put_first}

-- A search: its tree, the best load, and the grouping that was found last.
pub record Searched : Type 0 where
  pub tree : Plain
  pub best : Option ℕ
  pub found : Option Found

-- what becomes of an open leaf that has so many options
abbrev pub leaf_after : Finding → ℕ → Plain
leaf_after Bounded n = bound
leaf_after (Failed named) n = fail named
leaf_after (Complete load order) n = bound
leaf_after Parted n = inner (lefts n)

-- what becomes of the best load
abbrev pub best_after : Finding → Option ℕ → Option ℕ
best_after Bounded best = best
best_after (Failed named) best = best
best_after (Complete load order) best = Some load
best_after Parted best = best

-- what becomes of the grouping that was found: only a complete one replaces it
abbrev pub found_after : Finding → List ℕ → Option Found → Option Found
found_after Bounded p found = found
found_after (Failed named) p found = found
found_after (Complete load order) p found = Some (record { labels = p; order = order; load = load })
found_after Parted p found = found

-- what becomes of a search where this is found at the place of its first open leaf
abbrev pub after : List Item → List ℕ → Finding → Searched → Searched
after items p finding x = record {
  tree = put_first (leaf_after finding (length (options_of items p))) x.tree;
  best = best_after finding x.best;
  found = found_after finding p x.found;
}

module _ (Finds : Option ℕ → List ℕ → Finding → Type 0) (items : List Item) (from : List ℕ) where
  -- a step of a search that began at a partial grouping: what is found with the best so far at the place of
  -- the first
  -- open leaf becomes of that leaf
  pub record Step (x y : Searched) : Type 0 where
    pub place : List ℕ
    pub rest : List (List ℕ)
    pub first : open_places items from x.tree ≡ place ∷ rest
    pub finding : Finding
    pub finds : Finds x.best place finding
    pub is : y ≡ after items place finding x

  -- so many steps
  abbrev pub Steps : ℕ → Searched → Searched → Type 0
  Steps zero x y = y ≡ x
  Steps (suc n) x y = (z : Searched) × Steps n x z × Step z y
