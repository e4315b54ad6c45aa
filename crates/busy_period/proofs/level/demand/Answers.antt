use Rattle.std.proofs.Common.{arith}
use Rattle.busy_period.proofs.Stages.{front_is_named}
use Rattle.busy_period.proofs.level.demand.Goals as goal

pub work-requires-clause-named : goal.work-requires-clause-named
work-requires-clause-named c =
    front_is_named c.args.frames.now c.args.order.now c.args.place _ c.requires.stage (omega arith)
