use Rattle.cert_text.proofs.Numbers.{IsSpelledSoFar}
use Rattle.cert_text.proofs.number.number_ended.Given as goal

-- the digits so far
abbrev pub invariant-loop-place : goal.invariant-loop-place
invariant-loop-place l = IsSpelledSoFar l.first l.rest l.place l.value
