-- The grouping of a placed matrix, and its classes by ascending identifier.
use Rattle.std.specs.Prelude.{ℕ, nat_eq, List, map, filter}
use Rattle.std.specs.List.{list_any, position_or_len, range_with_len}
use Rattle.frame_ticks.specs.declared.bits.TheConstants.{IDENTIFIERS}
use Rattle.pack_model.specs.Problem.{Parts, distinct}
use Rattle.matrix_rows.specs.declared.matrix.MatrixRow.{MatrixRow}
use Rattle.placed_matrix.specs.Items.{frame_of_item}

-- the identifier of each item's frame
abbrev pub identifiers_of : Parts → List MatrixRow → List ℕ
identifiers_of problem rows = map (frame_of_item problem rows) problem.items

-- the label of a number: its place among the different ones
abbrev pub label_in : List ℕ → ℕ → ℕ
label_in firsts id = position_or_len (nat_eq id) firsts

-- the identifiers of the frames, each once, by their first item
abbrev pub frame_identifiers : Parts → List MatrixRow → List ℕ
frame_identifiers problem rows = distinct nat_eq (identifiers_of problem rows)

-- each item's label: items have one label where they have one frame, and labels are numbered by first use
abbrev pub grouping_of : Parts → List MatrixRow → List ℕ
grouping_of problem rows = map (label_in (frame_identifiers problem rows)) (identifiers_of problem rows)

-- all identifiers of base frames, as ISO 11898-1 has them
unfoldable pub identifiers : List ℕ
identifiers = range_with_len 0 IDENTIFIERS

-- the labels of the frames by ascending identifier
abbrev pub order_of : Parts → List MatrixRow → List ℕ
order_of problem rows =
    map (label_in (frame_identifiers problem rows))
    (filter (λ id. list_any (nat_eq id) (frame_identifiers problem rows)) identifiers)
