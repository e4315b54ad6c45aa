use Rattle.std.proofs.Common.{◌≡◌, take}
use Rattle.class_frame.specs.Grouping.{classes_of}
use Rattle.plan_search.proofs.together.count_classes.Given as goal

abbrev pub invariant-loop-label : goal.invariant-loop-label
invariant-loop-label l = l.classes ≡ classes_of (take l.label-index l.labels)
