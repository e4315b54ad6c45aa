use Rattle.std.proofs.Common.{◌≡◌, ℕ, ◌+◌, IfOk, min, take, subst, arith}
use Rattle.busy_period.specs.Demand.{work_of, demand_of}
use Rattle.busy_period.proofs.Stages.{front_is_named}
use Rattle.response_test.specs.Chain.{IsClimb}
use Rattle.response_test.proofs.Chains.{level_demand}
use Rattle.response_test.proofs.chain.level_climb.Goals as goal

pub climb-requires-clause-named : goal.climb-requires-clause-named
climb-requires-clause-named c =
    front_is_named c.args.frames.now c.args.order.now c.args.place _ c.requires.stage (omega arith)

-- what fits is busy
pub climb-requires-clause-none : goal.climb-requires-clause-none
climb-requires-clause-none c = λ time fit.
    c.requires.none time (record {
      some = fit.begun;
      done =
          omega (
            arith,
            fit.done,
            level_demand c.args.frames.now c.args.order.now c.args.place c.base_of-base.result c.requires.stage.inside c.base_of-base.ensures.value time,
          );
    })

-- the base and the work are the demand
pub returns : goal.returns
returns c =
    let asked : ℕ → ℕ =
    λ time. c.base_of-base.result + work_of c.args.frames.now (take (c.args.place + 1) c.args.order.now) (time + 0) in
    let same : asked ≡ demand_of c.args.frames.now c.args.order.now c.args.place =
    λ i time.
    level_demand c.args.frames.now c.args.order.now c.args.place c.base_of-base.result c.requires.stage.inside c.base_of-base.ensures.value time i in
    let Climbs : (ℕ → ℕ) → Type 0 =
    λ demand. IfOk c.climb.result (IsClimb (λ time. min (demand time) c.args.cap) 1 c.args.until) in
    subst Climbs same c.climb.ensures
