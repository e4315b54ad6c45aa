use Rattle.std.proofs.Common.{arith}
use Rattle.busy_period.proofs.Stages.{own_is_in_range}
use Rattle.response_test.proofs.Starts.{starts_after_arrival}
use Rattle.response_test.proofs.Worst.{worst_so_far_more, worst_of_all}
use Rattle.response_test.proofs.written.worst_response.Goals as goal

pub overflow_sub-response : goal.overflow_sub-response
overflow_sub-response c =
    omega (
      arith,
      starts_after_arrival c.args.frames.now c.args.order.now c.args.place c.args.bit c.loop-instance.instance c.in_ok-busy.busy
          c.least_queue-start.result c.requires.stage c.in_ok-busy.ensures.least (omega arith) c.least_queue-start.ensures.least.holds,
    )

pub loop-instance-preserved : goal.loop-instance-preserved
loop-instance-preserved c =
    let arrived = starts_after_arrival c.args.frames.now c.args.order.now c.args.place c.args.bit c.loop-instance.instance c.in_ok-busy.busy
    c.least_queue-start.result c.requires.stage c.in_ok-busy.ensures.least (omega arith) c.least_queue-start.ensures.least.holds in
    worst_so_far_more _ _ c.loop-instance.instance c.loop-instance.worst _ c.max-worst.result c.loop-instance.invariant
    (record { start = c.least_queue-start.result; least = c.least_queue-start.ensures.least; ends = omega arith })
    c.max-worst.ensures

pub returns-clause-greatest : goal.returns-clause-greatest
returns-clause-greatest c =
    worst_of_all _ _ _ c.in_ok-busy.busy c.loop-instance.instance c.loop-instance.worst
    (own_is_in_range c.args.frames.now c.args.order.now c.args.place c.requires.stage).some_period
    c.in_ok-busy.ensures.least (omega arith) c.loop-instance.invariant
