use Rattle.std.proofs.Common.{◌≡◌, None, drop}
use Rattle.par_check.specs.Shards.{joined_from}
use Rattle.par_check.proofs.checking.join.Given as goal

-- the answers that are left go on from the least so far
abbrev pub invariant-loop-answer : goal.invariant-loop-answer
invariant-loop-answer l = joined_from None l.answers ≡ joined_from l.least (drop l.answer-index l.answers)
