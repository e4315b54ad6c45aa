use Rattle.busy_period.specs.Stage.{own_of}
use Rattle.response_test.specs.Queueing.{queueing_of}
use Rattle.response_test.proofs.Worst.{IsWorstSoFar}
use Rattle.response_test.proofs.written.worst_response.Given as goal

abbrev pub invariant-loop-instance : goal.invariant-loop-instance
invariant-loop-instance l = IsWorstSoFar (own_of l.frames l.order l.place) (queueing_of l.frames l.order l.place l.bit) l.instance l.worst
