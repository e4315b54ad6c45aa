use Rattle.std.proofs.Common.{length}
use Rattle.cert_text.specs.Words.{BeginsNumbers}
use Rattle.cert_text.proofs.words.first_numbers.Given as goal

-- the numbers so far
abbrev pub invariant-loop-number : goal.invariant-loop-number
invariant-loop-number l = BeginsNumbers l.text l.numbers.items l.left

abbrev pub decreases-loop-number : goal.decreases-loop-number
decreases-loop-number l = length l.left
