-- Which parts are judged of a kind of certificate.
use Rattle.std.specs.Prelude.{Bool, true, false, List, [], ◌∷◌}
use Rattle.matrix_rows.specs.declared.matrix.MatrixRow.{MatrixRow}
use Rattle.cert_text.specs.declared.parts.Kind.{Kind}
use Rattle.cert_text.specs.declared.parts.Kind.TheVariants.{KindPlaced, KindTimed, KindBetween, KindBest, KindNoSolution}

-- the matrix of the kind is to be placed; else it has no rows
abbrev pub is_to_be_placed : Kind → List MatrixRow → Bool
is_to_be_placed KindPlaced rows = true
is_to_be_placed KindTimed rows = true
is_to_be_placed KindBetween [] = false
is_to_be_placed KindBetween (row ∷ rows) = true
is_to_be_placed KindBest rows = true
is_to_be_placed KindNoSolution rows = false

-- the matrix has rows
abbrev pub has_row : List MatrixRow → Bool
has_row [] = false
has_row (row ∷ rows) = true

-- the kind is `placed`, whose frames are not judged
abbrev pub is_kind_placed : Kind → Bool
is_kind_placed KindPlaced = true
is_kind_placed KindTimed = false
is_kind_placed KindBetween = false
is_kind_placed KindBest = false
is_kind_placed KindNoSolution = false
