use Rattle.std.proofs.Common.{◌≡◌, ◌≤◌, length, take}
use Rattle.cert_text.specs.Pieces.{pieces}
use Rattle.cert_text.proofs.position.depth_in.Given as goal

-- the runs passed over have no pieces
abbrev pub invariant-loop-place : goal.invariant-loop-place
invariant-loop-place l = (pieces (take l.place l.runs) ≡ pieces l.runs) × (l.place ≤ length l.runs)

abbrev pub decreases-loop-place : goal.decreases-loop-place
decreases-loop-place l = l.place
