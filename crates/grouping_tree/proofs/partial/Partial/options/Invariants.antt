use Rattle.std.proofs.Common.{◌≡◌, ◌+◌, ◌≤◌, length}
use Rattle.grouping_tree.specs.Grouped.{labels_of, range_of}
use Rattle.grouping_tree.specs.Partial.{options_of}
use Rattle.grouping_tree.specs.Walk.{options_from}
use Rattle.grouping_tree.proofs.partial.Partial.options.Given as goal

-- the options so far are counted
abbrev pub invariant-loop-label : goal.invariant-loop-label
invariant-loop-label l = record {
  low : l.count ≤ l.label;
  all : length (options_of (range_of l.problem l.self) (labels_of l.self)) ≡ l.count + length (options_from (range_of l.problem l.self) (labels_of l.self) l.label);
}
