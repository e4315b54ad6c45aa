-- The tree of a search from what the search holds: the nodes that are done, and the places still to come.
use Rattle.std.specs.Prelude.{◌≡◌, ◌≤◌, ℕ, ◌++◌, Bool, true, false, List, [], ◌∷◌, length, replicate, take}
use Rattle.pack_model.specs.declared.item.Item.{Item}
use Rattle.pack_model.specs.Problem.{Parts}
use Rattle.cert_text.specs.Trees.{Plain}
use Rattle.grouping_tree.specs.Grouped.{Belongs, labels_of, range_of, room_of}
use Rattle.grouping_tree.specs.Walk.{places_left}
use Rattle.bandwidth_bound.specs.Trees.{open_places}
use Rattle.tree_search.specs.declared.node.Node.{Node}
use Rattle.tree_search.specs.declared.node.Node.TheVariants.{Left}
use Rattle.tree_search.specs.declared.search.Search.{Search}
use Rattle.tree_search.specs.Flat.{IsClosed, flat}
use Rattle.tree_search.specs.Open.{HasOptions}
use Rattle.tree_search.specs.Step.{Searched}

-- the places that are open where a walk below its first labels stands: this one and those still to come, or
-- none
abbrev pub agenda : List Item → ℕ → List ℕ → Bool → List (List ℕ)
agenda items base labels true = labels ∷ places_left items base labels
agenda items base labels false = []

-- a tree is its nodes that are done, and then an open leaf at each of the places
pub record Shows (items : List Item) (from : List ℕ) (nodes : List Node) (places : List (List ℕ))
    (t : Plain) : Type 0 where
  pub closed : IsClosed nodes
  pub flat_is : flat t ≡ nodes ++ replicate (length places) Left
  pub open_are : open_places items from t ≡ places
  pub options : HasOptions items from t

-- the items that are searched
abbrev pub items_of : Parts → Search → List Item
items_of problem search = range_of problem search.partial

-- the partial grouping at which the search began
abbrev pub start_of : Search → List ℕ
start_of search = take search.base (labels_of search.partial)

-- the partial grouping of a search is one of the problem, at or below the start, and at the start where the
-- search is done
pub record IsOf (problem : Parts) (search : Search) : Type 0 where
  pub belongs : Belongs problem search.partial
  pub below : search.base ≤ length (labels_of search.partial)
  pub done : search.open ≡ false → labels_of search.partial ≡ start_of search

-- what the search holds is this tree, best load and grouping found
pub record IsAt (problem : Parts) (search : Search) (x : Searched) : Type 0 where
  pub shows : Shows (items_of problem search) (start_of search) search.nodes.items
      (agenda (items_of problem search) search.base (labels_of search.partial) search.open) x.tree
  pub best : x.best ≡ search.best
  pub found : x.found ≡ search.found

-- a search went on: it is one of the problem, over the same items, from the same start and with the same
-- memory
pub record GoesOn (problem : Parts) (old new : Search) : Type 0 where
  pub is_of : IsOf problem new
  pub items : items_of problem new ≡ items_of problem old
  pub start : start_of new ≡ start_of old
  pub base : new.base ≡ old.base
  pub room : room_of new.partial ≡ room_of old.partial
