use Rattle.std.proofs.Common.{arith}
use Rattle.class_frame.proofs.GroupingLaws.{label-lt-classes_of}
use Rattle.plan_search.proofs.BySender.{classes-more}
use Rattle.plan_search.proofs.together.count_classes.Goals as goal
use Rattle.plan_search.proofs.together.count_classes.Goals.{then-label-classes, else-label-classes}

pub overflow_add-classes : goal.overflow_add-classes
overflow_add-classes c =
    omega (arith, label-lt-classes_of c.args.labels.now c.loop-label.label-index c.loop-label-test.true)

pub loop-label-preserved : goal.loop-label-preserved
loop-label-preserved c =
    let more = classes-more c.args.labels.now c.loop-label.label-index c.loop-label-test.true in
    elim c.if-label-classes.branch [
      | then-label-classes w ↦ omega (arith, more)
      | else-label-classes w ↦ omega (arith, more)
    ]
