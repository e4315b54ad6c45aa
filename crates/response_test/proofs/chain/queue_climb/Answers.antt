use Rattle.std.proofs.Common.{arith}
use Rattle.busy_period.proofs.Stages.{front_is_named}
use Rattle.response_test.proofs.chain.queue_climb.Goals as goal

pub climb-requires-clause-named : goal.climb-requires-clause-named
climb-requires-clause-named c =
    front_is_named c.args.frames.now c.args.order.now c.args.place _ c.requires.stage (omega arith)
