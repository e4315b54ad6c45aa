use Rattle.std.proofs.Common.{◌≡◌, length}
use Rattle.grouping_tree.specs.Grouped.{range_of}
use Rattle.grouping_tree.specs.Walk.{places_left}
use Rattle.cert_check.specs.Places.{IsOver, IsPlace, labels_at}
use Rattle.cert_check.proofs.node_place.NodePlace.leave.Given as goal

-- no place of those passed is left
abbrev pub invariant-loop-self : goal.invariant-loop-self
invariant-loop-self l = record {
  place : IsPlace l.problem l.self;
  over : IsOver l.problem l.initial.self l.self;
  left : places_left (range_of l.problem l.initial.self.partial) 0 (labels_at l.initial.self)
      ≡ places_left (range_of l.problem l.self.partial) 0 (labels_at l.self);
}

abbrev pub decreases-loop-self : goal.decreases-loop-self
decreases-loop-self l = length (labels_at l.self)
