-- the places before the number are apart
use Rattle.ipdu_layout.proofs.Places.{ApartBelow}
use Rattle.ipdu_layout.proofs.place.stand_by_pairs.Given as goal

abbrev pub invariant-loop-number : goal.invariant-loop-number
invariant-loop-number l = ApartBelow l.places l.number
