use Rattle.std.proofs.Common.{arith}
use Rattle.std.proofs.lemmas.Result.{IfOk-weaker}
use Rattle.response_test.specs.Queueing.{queueing_of}
use Rattle.response_test.proofs.Climbs.{late_start, queue_climb_uncut, chain_from_climb}
use Rattle.response_test.proofs.stage_evidence.queue_chain.Goals as goal

pub queue_climb-requires-clause-none : goal.queue_climb-requires-clause-none
queue_climb-requires-clause-none c = λ time can_start.
    omega (
      arith,
      c.time_above-until.ensures,
      late_start c.args.frames.now c.args.order.now c.args.place c.args.bit c.args.instance time c.requires.late can_start,
    )

pub returns-clause-climb : goal.returns-clause-climb
returns-clause-climb c =
    IfOk-weaker _ _ _
    (λ chain.
    queue_climb_uncut c.args.frames.now c.args.order.now c.args.place c.args.bit c.args.instance _ chain c.requires.stage c.requires.bit
    c.requires.late.inside)
    (rw c.time_above-until.ensures at c.queue_climb.ensures)

pub returns-clause-chain : goal.returns-clause-chain
returns-clause-chain c =
    IfOk-weaker _ _ _
    (λ chain.
    chain_from_climb (queueing_of c.args.frames.now c.args.order.now c.args.place c.args.bit c.args.instance) 0 _ _ chain (omega arith)
    (omega arith))
    c.queue_climb.ensures
