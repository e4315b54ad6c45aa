-- Where the rows of a matrix put a problem's items.
use Rattle.std.specs.Prelude.{ℕ, Bool, ◌==◌, List, [], filter, find, slice_get, slice_index}
use Rattle.std.specs.Option.{option_map_or}
use Rattle.std.specs.Str.{bytes_eq}
use Rattle.pack_model.specs.declared.signal.Signal.{Signal}
use Rattle.pack_model.specs.declared.item.Item.{Item}
use Rattle.pack_model.specs.Problem.{Parts}
use Rattle.matrix_rows.specs.declared.matrix.MatrixRow.{MatrixRow}

-- the row is of the signal of this name
abbrev pub is_named : List ℕ → MatrixRow → Bool
is_named name row = bytes_eq name row.signal

-- the name of an item's first signal
abbrev pub name_of_item : List Signal → Item → List ℕ
name_of_item signals item =
    option_map_or (λ signal. signal.name) (slice_get signals (slice_index item.members 0)) []

-- the identifier of the frame that the signal of a name is in
abbrev pub identifier_of : List MatrixRow → List ℕ → ℕ
identifier_of rows name = option_map_or (λ row. row.id) (find (is_named name) rows) 0

-- the byte at which the part of the signal of a name begins
abbrev pub at_of : List MatrixRow → List ℕ → ℕ
at_of rows name = option_map_or (λ row. row.at) (find (is_named name) rows) 0

-- the identifier of an item's frame, as the row of its first signal says
abbrev pub frame_of_item : Parts → List MatrixRow → Item → ℕ
frame_of_item problem rows item = identifier_of rows (name_of_item problem.signals item)

-- the byte at which an item's part begins, as the row of its first signal says
abbrev pub at_of_item : Parts → List MatrixRow → Item → ℕ
at_of_item problem rows item = at_of rows (name_of_item problem.signals item)

-- the items in the frame of an identifier, in order
abbrev pub items_in_frame : Parts → List MatrixRow → ℕ → List Item
items_in_frame problem rows id = filter (λ item. frame_of_item problem rows item == id) problem.items
