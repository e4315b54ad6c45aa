use Rattle.std.proofs.Common.{arith}
use Rattle.busy_period.proofs.Stages.{front_is_named}
use Rattle.response_test.proofs.chain.end_of_queue_chain.Goals as goal

pub end_of_chain-requires-clause-named : goal.end_of_chain-requires-clause-named
end_of_chain-requires-clause-named c =
    front_is_named c.args.frames.now c.args.order.now c.args.place _ c.requires.stage (omega arith)
