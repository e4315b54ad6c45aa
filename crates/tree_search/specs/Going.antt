-- The places of a search on its way from one open leaf to the next.
use Rattle.std.specs.Prelude.{◌≡◌, ℕ, ◌++◌, List, [], ◌∷◌, Option, None, Some}
use Rattle.pack_model.specs.declared.item.Item.{Item}
use Rattle.pack_model.specs.Problem.{Parts}
use Rattle.grouping_tree.specs.Grouped.{labels_of}
use Rattle.grouping_tree.specs.Walk.{options_from, places_left, with_each}
use Rattle.tree_search.specs.declared.finding.Found.{Found}
use Rattle.tree_search.specs.declared.node.Node.{Node}
use Rattle.tree_search.specs.declared.search.Search.{Search}
use Rattle.tree_search.specs.Shown.{Shows, items_of, start_of}
use Rattle.tree_search.specs.Step.{Searched}

-- the places still to come where a walk below its first labels goes on at this place with the options from a
-- label on, and no place where it is done
abbrev pub places_on : List Item → ℕ → List ℕ → Option ℕ → List (List ℕ)
places_on items base labels None = []
places_on items base labels (Some from) =
    with_each labels (options_from items labels from) ++ places_left items base labels

-- the places still to come where it goes on at an option of this place, or there is none left
abbrev pub places_at : List Item → ℕ → List ℕ → Option ℕ → List (List ℕ)
places_at items base labels None = places_left items base labels
places_at items base labels (Some label) =
    (labels ++ label ∷ []) ∷ places_left items base (labels ++ label ∷ [])

-- what is held is this tree, by its nodes that are done and the places still to come, and this best load and
-- grouping found
pub record Holds (items : List Item) (from : List ℕ) (nodes : List Node) (places : List (List ℕ))
    (best : Option ℕ) (found : Option Found) (x : Searched) : Type 0 where
  pub shows : Shows items from nodes places x.tree
  pub same_best : x.best ≡ best
  pub same_found : x.found ≡ found

-- what a search holds that goes on at its partial grouping from a label on, or is done
abbrev pub IsOn : Parts → Search → Option ℕ → Searched → Type 0
IsOn problem search from x =
    Holds (items_of problem search) (start_of search) search.nodes.items
    (places_on (items_of problem search) search.base (labels_of search.partial) from)
    search.best search.found x
