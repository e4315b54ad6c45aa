-- The places of a tree of partial groupings in preorder: each place before those below it, and those below by ascending label.
use Rattle.std.specs.Prelude.{ℕ, ◌+◌, ◌++◌, List, [], ◌∷◌, take, drop, map, filter, nat_le}
use Rattle.pack_model.specs.declared.item.Item.{Item}
use Rattle.grouping_tree.specs.Partial.{options_of}

-- the options that are at least a label
abbrev pub options_from : List Item → List ℕ → ℕ → List ℕ
options_from items labels label = filter (nat_le label) (options_of items labels)

-- the place with one more label, for each of some labels
abbrev pub with_each : List ℕ → List ℕ → List (List ℕ)
with_each place labels = map (λ label. place ++ label ∷ []) labels

-- the places one label below a place
abbrev pub places_below : List Item → List ℕ → List (List ℕ)
places_below items place = with_each place (options_of items place)

-- the places beside those on the way from a place down by some labels, the deepest first: the ones whose label is greater
abbrev pub places_beside : List Item → List ℕ → List ℕ → List (List ℕ)
places_beside items place [] = []
places_beside items place (label ∷ labels) = places_beside items (place ++ label ∷ []) labels ++ with_each place (options_from items place (label + 1))

-- the places that a walk below the first `base` labels of a place still comes to once all below that place is done, in preorder; those below each of them come right after it
abbrev pub places_left : List Item → ℕ → List ℕ → List (List ℕ)
places_left items base labels = places_beside items (take base labels) (drop base labels)
