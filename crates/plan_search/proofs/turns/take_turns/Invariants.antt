use Rattle.plan_search.specs.Begin.{AreTurns}
use Rattle.plan_search.specs.Takes.{turns_of}
use Rattle.plan_search.proofs.turns.take_turns.Given as goal

-- the turns of the senders so far
abbrev pub invariant-loop-sender : goal.invariant-loop-sender
invariant-loop-sender l = AreTurns l.problem l.branches l.sender (turns_of l.taken)
