use Rattle.std.proofs.Common.{MatchOption}
use Rattle.bus_run.specs.Tables.{IsLeastBelow, NoneIn}
use Rattle.bus_run.proofs.unsent.least_queued.Given as goal

-- the least of the frames so far
abbrev pub invariant-loop-frame : goal.invariant-loop-frame
invariant-loop-frame l =
    MatchOption l.least (NoneIn l.run l.next l.frame) (λ least. IsLeastBelow l.run l.next l.frame least)
