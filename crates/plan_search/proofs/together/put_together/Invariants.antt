use Rattle.std.proofs.Common.{◌≡◌, sum_by, take}
use Rattle.class_frame.specs.Grouping.{classes_of}
use Rattle.plan_search.specs.Begin.{put_together}
use Rattle.plan_search.proofs.together.put_together.Given as goal

abbrev pub invariant-loop-own : goal.invariant-loop-own
invariant-loop-own l = record {
  labels : l.labels.items ≡ put_together 0 (take l.own-index l.groupings);
  classes : l.classes ≡ sum_by classes_of (take l.own-index l.groupings);
}
