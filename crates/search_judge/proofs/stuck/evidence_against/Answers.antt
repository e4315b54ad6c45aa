use Rattle.std.proofs.Common.{◌≡◌, ◌-◌, List, ℕ, arith, ap, ◌∙◌, length}
use Rattle.search_judge.proofs.Members.{few_members, member_stage, order_room}
use Rattle.search_judge.proofs.stuck.evidence_against.Goals as goal

pub order_below-order-requires-clause-few : goal.order_below-order-requires-clause-few
order_below-order-requires-clause-few c =
    omega (arith, c.requires.stuck.few, few_members c.args.frames.now c.args.bit c.args.members.now c.requires.stuck)

pub order_below-order-requires-clause-room : goal.order_below-order-requires-clause-room
order_below-order-requires-clause-room c =
    order_room c.args.frames.now c.args.bit c.args.members.now c.args.rest.now c.args.own c.requires.stuck
    c.requires.member c.requires.rest

pub evidence_of-requires-clause-stage : goal.evidence_of-requires-clause-stage
evidence_of-requires-clause-stage c =
    let order : List ℕ = c.as_slice.result.now in
    let is = c.as_slice.ensures.value ∙ c.order_below-order.ensures in
    let at : c.len.result - length c.args.rest.now - 1 ≡ length order - length c.args.rest.now - 1 =
    omega (arith, c.len.ensures.value, ap length c.as_slice.ensures.value) in
    member_stage c.args.frames.now c.args.bit c.args.members.now order c.args.rest.now c.args.own
    (c.len.result - length c.args.rest.now - 1) c.requires.stuck c.requires.member c.requires.rest is at
