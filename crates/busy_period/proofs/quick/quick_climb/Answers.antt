use Rattle.std.proofs.Common.{arith}
use Rattle.busy_period.proofs.Stages.{fit-above}
use Rattle.busy_period.proofs.quick.quick_climb.Goals as goal

pub loop-preserved : goal.loop-preserved
loop-preserved c =
    record {
      from = omega arith;
      within = omega arith;
      below = λ later fit.
          omega (
            arith,
            fit-above c.args.frames.now c.args.numbers.now c.args.base c.args.ahead c.args.time c.loop.reached
                later fit (c.loop.invariant.below later fit),
          );
    }
