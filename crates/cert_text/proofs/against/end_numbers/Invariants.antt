use Rattle.std.proofs.Common.{length}
use Rattle.cert_text.specs.Evidences.{BlankNumbers}
use Rattle.cert_text.proofs.against.end_numbers.Given as goal

-- the numbers so far
abbrev pub invariant-loop-number : goal.invariant-loop-number
invariant-loop-number l = BlankNumbers l.bytes l.numbers.items l.left

abbrev pub decreases-loop-number : goal.decreases-loop-number
decreases-loop-number l = length l.left
