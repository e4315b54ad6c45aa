use Rattle.std.proofs.Common.{◌≡◌, ◌≤◌, length, take}
use Rattle.grouping_tree.specs.Grouped.{Belongs, labels_of, range_of, room_of}
use Rattle.tree_search.specs.Going.{places_on}
use Rattle.tree_search.proofs.Goings.{more_of}
use Rattle.tree_search.proofs.trimming.next_place.Given as goal

abbrev pub invariant-loop-next : goal.invariant-loop-next
invariant-loop-next l = record {
  belongs : Belongs l.problem l.partial;
  range : range_of l.problem l.partial ≡ range_of l.problem l.initial.partial;
  room : room_of l.partial ≡ room_of l.initial.partial;
  below : l.base ≤ length (labels_of l.partial);
  front : take l.base (labels_of l.partial) ≡ take l.base (labels_of l.initial.partial);
  places : places_on (range_of l.problem l.initial.partial) l.base (labels_of l.initial.partial) l.fn.from
      ≡ places_on (range_of l.problem l.initial.partial) l.base (labels_of l.partial) l.next;
}

abbrev pub decreases-loop-next : goal.decreases-loop-next
decreases-loop-next l = more_of l.next (length (labels_of l.partial))
