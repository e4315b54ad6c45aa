use Rattle.std.proofs.Common.{arith}
use Rattle.std.proofs.lemmas.Result.{IfOk-weaker}
use Rattle.busy_period.specs.Demand.{demand_of}
use Rattle.response_test.proofs.Climbs.{busy_with_instance, busy_climb_uncut, chain_from_climb}
use Rattle.response_test.proofs.stage_evidence.busy_chain.Goals as goal

pub level_climb-requires-clause-none : goal.level_climb-requires-clause-none
level_climb-requires-clause-none c = λ time busy.
    omega (
      arith,
      c.time_above-until.ensures,
      busy_with_instance c.args.frames.now c.args.order.now c.args.place c.args.instance time c.requires.stage c.requires.inside busy,
    )

pub returns-clause-climb : goal.returns-clause-climb
returns-clause-climb c =
    IfOk-weaker _ _ _
    (λ chain. busy_climb_uncut c.args.frames.now c.args.order.now c.args.place c.args.instance _ chain c.requires.stage c.requires.inside)
    (rw c.time_above-until.ensures at c.level_climb.ensures)

pub returns-clause-chain : goal.returns-clause-chain
returns-clause-chain c =
    IfOk-weaker _ _ _
    (λ chain. chain_from_climb (demand_of c.args.frames.now c.args.order.now c.args.place) 1 _ _ chain (omega arith) (omega arith))
    c.level_climb.ensures
