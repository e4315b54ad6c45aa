use Rattle.std.proofs.Common.{◌≡◌, ℕ, arith}
use Rattle.busy_period.specs.Demand.{demand_of}
use Rattle.busy_period.specs.Busy.{IsBusy}
use Rattle.busy_period.proofs.Least.{least_unique}
use Rattle.response_test.specs.Queueing.{queueing_of}
use Rattle.response_test.specs.Passing.{CanStart}
use Rattle.response_test.proofs.Level.{starts_before_end_at}
use Rattle.response_test.proofs.Verdicts.{in_time_from_passes, some_of_climb}
use Rattle.response_test.proofs.queue.least_queue.Goals as goal

pub unwrap-requires : goal.unwrap-requires
unwrap-requires c =
    let it = starts_before_end_at c.args.frames.now c.args.order.now c.args.place c.args.bit c.args.q c.requires.instance.busy
    c.requires.stage c.requires.bit c.requires.instance.least.busy.holds c.requires.instance.inside in
    some_of_climb (CanStart (queueing_of c.args.frames.now c.args.order.now c.args.place c.args.bit) c.args.q) _ _ c.least_start.result it.1
    (omega (arith, it.0, c.requires.instance.least.short)) c.least_start.ensures.none

pub returns-clause-within : goal.returns-clause-within
returns-clause-within c = λ busy least.
    let demand : ℕ → ℕ = demand_of c.args.frames.now c.args.order.now c.args.place in
    let same : c.requires.instance.busy ≡ busy = least_unique (IsBusy demand) c.requires.instance.busy busy c.requires.instance.least.busy least.busy in
    let it = starts_before_end_at c.args.frames.now c.args.order.now c.args.place c.args.bit c.args.q c.requires.instance.busy
    c.requires.stage c.requires.bit c.requires.instance.least.busy.holds c.requires.instance.inside in
    let first = rw c.unwrap.ensures at c.least_start.ensures.least in
    omega (arith, it.0, first.least _ it.1)

pub returns-clause-in_time : goal.returns-clause-in_time
returns-clause-in_time c = λ passes.
    in_time_from_passes _ _ _ c.requires.instance.busy c.args.q c.unwrap.result passes c.requires.instance.least c.requires.instance.inside
    (rw c.unwrap.ensures at c.least_start.ensures.least)
