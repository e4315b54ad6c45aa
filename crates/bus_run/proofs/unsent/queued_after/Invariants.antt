use Rattle.bus_run.specs.Tables.{QueuedAfter}
use Rattle.bus_run.proofs.unsent.queued_after.Given as goal

-- those of the frames so far are queued after the time
abbrev pub invariant-loop-frame : goal.invariant-loop-frame
invariant-loop-frame l = QueuedAfter l.run l.next l.frame l.time
