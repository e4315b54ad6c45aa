use Rattle.std.proofs.Common.{ℕ, ◌<◌, get_or}
use Rattle.busy_period.specs.Stage.{own_of}
use Rattle.response_test.specs.Queueing.{queueing_of}
use Rattle.response_test.specs.Passing.{CanStart, IsInTime}
use Rattle.response_test.proofs.given.shown.Given as goal

-- the instances so far are shown to pass
abbrev pub invariant-loop-instance : goal.invariant-loop-instance
invariant-loop-instance l = record {
  can_start : (k : ℕ) → k < l.instance → CanStart (queueing_of l.frames l.order l.place l.bit) k (get_or l.w k 0);
  in_time : (k : ℕ) → k < l.instance → IsInTime (own_of l.frames l.order l.place) k (get_or l.w k 0);
}
