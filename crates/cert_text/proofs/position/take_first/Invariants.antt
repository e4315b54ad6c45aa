use Rattle.std.proofs.Common.{◌≡◌, length}
use Rattle.cert_text.specs.Pieces.{pieces}
use Rattle.cert_text.proofs.position.take_first.Given as goal

-- runs of no piece were taken alone
abbrev pub invariant-loop-last : goal.invariant-loop-last
invariant-loop-last l = pieces l.fn.runs.items ≡ pieces l.runs.items

abbrev pub decreases-loop-last : goal.decreases-loop-last
decreases-loop-last l = length l.runs.items
