use Rattle.std.proofs.Common.{◌+◌, ◌-◌, min}
use Rattle.busy_period.specs.Demand.{work_of}
use Rattle.response_test.proofs.Chains.{IsClimbing}
use Rattle.response_test.proofs.chain.climb.Given as goal

abbrev pub invariant-loop-time : goal.invariant-loop-time
invariant-loop-time l =
    IsClimbing (λ time. min (l.base + work_of l.frames l.numbers (time + l.ahead)) l.cap) l.first l.until l.times.items l.time

abbrev pub decreases-loop-time : goal.decreases-loop-time
decreases-loop-time l = l.until - l.time
