use Rattle.std.proofs.Common.{arith}
use Rattle.busy_period.proofs.Stages.{front_is_named}
use Rattle.response_test.proofs.queue.least_start.Goals as goal

pub least_fit-requires-clause-named : goal.least_fit-requires-clause-named
least_fit-requires-clause-named c = front_is_named c.args.frames.now c.args.order.now c.args.place _ c.requires.stage (omega arith)
