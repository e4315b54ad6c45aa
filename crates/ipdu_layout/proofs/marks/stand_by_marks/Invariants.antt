-- the marks are those of the places so far, which are apart
use Rattle.ipdu_layout.proofs.MarkLaws.{MarksBelow}
use Rattle.ipdu_layout.proofs.marks.stand_by_marks.Given as goal

abbrev pub invariant-loop-place : goal.invariant-loop-place
invariant-loop-place l = MarksBelow 512 l.places l.place-index l.marks
