use Rattle.std.proofs.Common.{◌≡◌, ◌≤◌, length, take}
use Rattle.grouping_tree.specs.Grouped.{Belongs, labels_of, range_of, room_of}
use Rattle.tree_search.proofs.trimming.restore.Given as goal

abbrev pub invariant-loop-partial : goal.invariant-loop-partial
invariant-loop-partial l = record {
  belongs : Belongs l.problem l.partial;
  range : range_of l.problem l.partial ≡ range_of l.problem l.initial.partial;
  room : room_of l.partial ≡ room_of l.initial.partial;
  below : l.base ≤ length (labels_of l.partial);
  front : take l.base (labels_of l.partial) ≡ take l.base (labels_of l.initial.partial);
}

abbrev pub decreases-loop-partial : goal.decreases-loop-partial
decreases-loop-partial l = length (labels_of l.partial)
