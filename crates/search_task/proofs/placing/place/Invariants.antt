use Rattle.std.proofs.Common.{◌≡◌, take}
use Rattle.grouping_tree.specs.Grouped.{Belongs, labels_of, range_of}
use Rattle.search_task.proofs.placing.place.Given as goal

-- the first labels of the path are put
abbrev pub invariant-loop-label : goal.invariant-loop-label
invariant-loop-label l = record {
  belongs : Belongs l.problem l.partial;
  labels : labels_of l.partial ≡ take l.label-index l.path;
  range : range_of l.problem l.partial ≡ l.problem.items;
}
