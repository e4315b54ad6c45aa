use Rattle.std.proofs.Common.{◌≡◌, take}
use Rattle.matrix_layout.specs.LaidOut.{signals_at, widths_of}
use Rattle.matrix_layout.proofs.frame_rows.widths_at.Given as goal

abbrev pub invariant-loop-place : goal.invariant-loop-place
invariant-loop-place l = l.widths.items ≡ widths_of (signals_at l.signals (take l.place-index l.places))
