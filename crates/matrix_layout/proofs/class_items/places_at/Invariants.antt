use Rattle.std.proofs.Common.{◌≡◌, take}
use Rattle.matrix_layout.specs.ClassItems.{items_at, places_of_items}
use Rattle.matrix_layout.proofs.class_items.places_at.Given as goal

abbrev pub invariant-loop-number : goal.invariant-loop-number
invariant-loop-number l = l.places.items ≡ places_of_items (items_at l.items (take l.number-index l.numbers))
