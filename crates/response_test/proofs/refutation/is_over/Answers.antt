use Rattle.std.proofs.Common.{arith}
use Rattle.busy_period.proofs.Stages.{front_is_named}
use Rattle.response_test.proofs.refutation.is_over.Goals as goal

pub sent-requires-clause-named : goal.sent-requires-clause-named
sent-requires-clause-named c =
    front_is_named c.args.frames.now c.args.order.now c.args.place _ c.requires.stage (omega arith)
