use Rattle.std.proofs.Common.{◌≡◌}
use Rattle.grouping_tree.specs.Grouped.{labels_of, range_of}
use Rattle.grouping_tree.specs.Walk.{options_from}
use Rattle.grouping_tree.proofs.partial.Partial.next_option.Given as goal

-- no label so far is an option
abbrev pub invariant-loop-label : goal.invariant-loop-label
invariant-loop-label l = options_from (range_of l.problem l.self) (labels_of l.self) l.from ≡ options_from (range_of l.problem l.self) (labels_of l.self) l.label
