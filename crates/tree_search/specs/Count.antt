-- How many partial groupings there are.
use Rattle.std.specs.Prelude.{ℕ, zero, suc, ◌+◌, List, sum_by}
use Rattle.pack_model.specs.declared.item.Item.{Item}
use Rattle.grouping_tree.specs.Walk.{places_below}

-- the partial groupings at and below one that has so many items left
abbrev pub place_count : List Item → ℕ → List ℕ → ℕ
place_count items zero p = 1
place_count items (suc n) p = 1 + sum_by (place_count items n) (places_below items p)
