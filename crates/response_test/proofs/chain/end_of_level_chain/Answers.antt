use Rattle.std.proofs.Common.{◌≡◌, ℕ, ◌+◌, SomeIff, take, subst, arith}
use Rattle.busy_period.specs.Demand.{work_of, demand_of}
use Rattle.busy_period.proofs.Stages.{front_is_named}
use Rattle.response_test.specs.Chain.{IsChain, last_of}
use Rattle.response_test.proofs.Chains.{level_demand}
use Rattle.response_test.proofs.chain.end_of_level_chain.Goals as goal

pub end_of_chain-requires-clause-named : goal.end_of_chain-requires-clause-named
end_of_chain-requires-clause-named c =
    front_is_named c.args.frames.now c.args.order.now c.args.place _ c.requires.stage (omega arith)

-- the base and the work are the demand
pub returns : goal.returns
returns c =
    let times = c.args.times.now in
    let asked : ℕ → ℕ =
    λ time. c.base_of-base.result + work_of c.args.frames.now (take (c.args.place + 1) c.args.order.now) (time + 0) in
    let same : asked ≡ demand_of c.args.frames.now c.args.order.now c.args.place =
    λ i time.
    level_demand c.args.frames.now c.args.order.now c.args.place c.base_of-base.result c.requires.stage.inside c.base_of-base.ensures.value time i in
    let Ends : (ℕ → ℕ) → Type 0 = λ demand. SomeIff c.end_of_chain.result (IsChain demand 1 times) (last_of times) in
    subst Ends same c.end_of_chain.ensures
