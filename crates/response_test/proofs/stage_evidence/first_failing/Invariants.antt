use Rattle.std.proofs.Common.{ℕ, ◌<◌}
use Rattle.busy_period.specs.Stage.{own_of}
use Rattle.response_test.specs.Queueing.{queueing_of}
use Rattle.response_test.specs.Passing.{InstancePasses}
use Rattle.response_test.proofs.stage_evidence.first_failing.Given as goal

-- the instances so far pass
abbrev pub invariant-loop-instance : goal.invariant-loop-instance
invariant-loop-instance l =
    (k : ℕ) → k < l.instance → InstancePasses (own_of l.frames l.order l.place) (queueing_of l.frames l.order l.place l.bit) k
