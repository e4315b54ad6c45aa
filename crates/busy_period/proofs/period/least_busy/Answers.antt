use Rattle.std.proofs.Common.{arith}
use Rattle.busy_period.proofs.Stages.{front_is_named, busy_of_climb, none_of_climb}
use Rattle.busy_period.proofs.period.least_busy.Goals as goal

pub least_fit-requires-clause-named : goal.least_fit-requires-clause-named
least_fit-requires-clause-named c =
    front_is_named c.args.frames.now c.args.order.now c.args.place _ c.requires (omega arith)

pub returns-clause-least : goal.returns-clause-least
returns-clause-least c =
    busy_of_climb c.args.frames.now c.args.order.now c.args.place c.in_ok-limit.limit c.least_fit.result
    c.requires.inside
    (omega (arith, c.in_ok-limit.ensures {u = tt}))
    (rw c.blocking-blocked.ensures.value at c.least_fit.ensures.least)
    c.least_fit.ensures.within

pub returns-clause-none : goal.returns-clause-none
returns-clause-none c =
    none_of_climb c.args.frames.now c.args.order.now c.args.place c.in_ok-limit.limit c.least_fit.result
    c.requires.inside
    (omega (arith, c.in_ok-limit.ensures {u = tt}))
    (rw c.blocking-blocked.ensures.value at c.least_fit.ensures.none)
