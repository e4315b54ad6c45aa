use Rattle.std.proofs.Common.{ℕ, ◌<◌}
use Rattle.response_test.specs.Frame.{InstancePassesBlocked}
use Rattle.busy_period.specs.Stage.{higher_of}
use Rattle.response_test.proofs.written.last_passes.Given as goal

-- the instances so far pass
abbrev pub invariant-loop-instance : goal.invariant-loop-instance
invariant-loop-instance l =
    (k : ℕ) → k < l.instance → InstancePassesBlocked l.frames l.number (higher_of l.level l.last) l.blocked l.bit k
