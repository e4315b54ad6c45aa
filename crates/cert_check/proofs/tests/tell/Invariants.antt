use Rattle.cert_check.specs.Taken.{HasTaken}
use Rattle.cert_check.proofs.tests.tell.Given as goal

-- the walk took some events
abbrev pub invariant-loop-event : goal.invariant-loop-event
invariant-loop-event l = HasTaken l.walk l.problem
