use Rattle.std.proofs.Common.{List, ℕ, arith, ap, ◌∙◌, ◌++◌}
use Rattle.class_frame.specs.Grouping.{classes_of}
use Rattle.plan_search.proofs.BySender.{after, put-one, sum-fits, sum-more}
use Rattle.plan_search.proofs.together.put_together.Goals as goal

pub put_after-requires : goal.put_after-requires
put_after-requires c =
    omega (
      arith,
      sum-fits c.args.groupings.now c.own-item.result c.loop-own.own-index c.loop-own-test.true c.own-item.is,
      ap classes_of c.as_slice.ensures,
    )

pub count_classes-classes-requires : goal.count_classes-classes-requires
count_classes-classes-requires c =
    omega (
      arith,
      sum-fits c.args.groupings.now c.own-item.result c.loop-own.own-index c.loop-own-test.true c.own-item.is,
      ap classes_of c.as_slice-in-loop-own.ensures,
    )

pub overflow_add-classes : goal.overflow_add-classes
overflow_add-classes c =
    omega (
      arith,
      sum-fits c.args.groupings.now c.own-item.result c.loop-own.own-index c.loop-own-test.true c.own-item.is,
      ap classes_of c.as_slice-in-loop-own.ensures,
      c.count_classes-classes.ensures,
    )

pub loop-own-preserved : goal.loop-own-preserved
loop-own-preserved c =
    let own : List ℕ = c.own-item.result in
    let inv = c.loop-own.invariant in record {
      labels = put-one c.args.groupings.now own c.loop-own.own-index c.loop-own-test.true c.own-item.is
          c.loop-own.labels.items c.put_after.new.labels.items c.loop-own.classes inv.labels inv.classes
          (c.in_ok-put_after.ensures
          ∙ ap (λ labels. c.loop-own.labels.items ++ after c.loop-own.classes labels) c.as_slice.ensures);
      classes = omega (
        arith,
        inv.classes,
        c.count_classes-classes.ensures,
        ap classes_of c.as_slice-in-loop-own.ensures,
        sum-more c.args.groupings.now own c.loop-own.own-index c.loop-own-test.true c.own-item.is,
      );
    }
