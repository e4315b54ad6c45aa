use Rattle.std.proofs.Common.{arith}
use Rattle.class_frame.proofs.ClassFrames.{few_classes}
use Rattle.class_frame.proofs.GroupingLaws.{front_of, length-order}
use Rattle.cert_check.proofs.placing.frames_of.Goals as goal

pub overflow_cast-len : goal.overflow_cast-len
overflow_cast-len c =
    omega (
      arith,
      c.len.ensures,
      few_classes c.args.problem.now c.args.labels.now c.hyper-hyper.ensures.problem
          (front_of c.args.problem.now.items c.args.labels.now c.requires.grouping),
      length-order c.args.labels.now c.args.order.items c.requires.order,
    )

pub class_frames-requires-clause-classes : goal.class_frames-requires-clause-classes
class_frames-requires-clause-classes c =
    omega (
      arith,
      c.len.ensures,
      c.args.order.ok.0,
      length-order c.args.labels.now c.args.order.items c.requires.order,
    )

pub returns-clause-stages : goal.returns-clause-stages
returns-clause-stages c = record {
  stages = λ place inside.
      c.in_ok-frames.ensures.stages c.args.order.items place c.requires.order inside;
  is_bit = c.in_ok-frames.ensures.bit;
  few =
      omega (
        arith,
        few_classes c.args.problem.now c.args.labels.now c.hyper-hyper.ensures.problem
            (front_of c.args.problem.now.items c.args.labels.now c.requires.grouping),
        length-order c.args.labels.now c.args.order.items c.requires.order,
      );
}
