use Rattle.std.proofs.Common.{◌≡◌, ◌<◌, length, get_or}
use Rattle.grouping_tree.specs.Grouped.{labels_of, range_of}
use Rattle.grouping_tree.specs.Partial.{options_of}
use Rattle.grouping_tree.specs.Walk.{options_from}
use Rattle.grouping_tree.proofs.partial.Partial.option.Given as goal

-- so many options come before the one of the number
abbrev pub invariant-loop-label : goal.invariant-loop-label
invariant-loop-label l = record {
  below : l.before < length (options_from (range_of l.problem l.self) (labels_of l.self) l.label);
  same : get_or (options_of (range_of l.problem l.self) (labels_of l.self)) l.k 0 ≡ get_or (options_from (range_of l.problem l.self) (labels_of l.self) l.label) l.before 0;
}
