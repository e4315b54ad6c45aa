use Rattle.std.proofs.Common.{map}
use Rattle.ipdu_layout.proofs.MarkLaws.{MarksBelow}
use Rattle.placed_matrix.specs.Tables.{place_among}
use Rattle.placed_matrix.proofs.overlap.are_apart.Given as goal

-- the marks are those of the rows so far, which are apart
abbrev pub invariant-loop-row : goal.invariant-loop-row
invariant-loop-row l = MarksBelow 65536 (map (place_among l.label_of) l.rows) l.row-index l.marks
