use Rattle.std.proofs.Common.{arith}
use Rattle.busy_period.proofs.Stages.{gap-le-made_up}
use Rattle.busy_period.proofs.leap.leap_from.Goals as goal

pub loop-init : goal.loop-init
loop-init c =
    record {
      before = λ more made.
          omega (arith, gap-le-made_up c.args.frames.now c.args.numbers.now c.args.time c.args.gap more made);
      gap = omega arith;
    }
