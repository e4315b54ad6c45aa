-- whatever sends the bits from the place down sends, with those sent so far, all of them
use Rattle.std.proofs.Common.{◌+◌, ◌*◌, ◌≤◌}
use Rattle.frame_ticks.specs.declared.line.Line.{Line}
use Rattle.frame_ticks.specs.Bits.{number_bits}
use Rattle.frame_ticks.specs.Line.{Sends}
use Rattle.frame_ticks.proofs.line.Line.send_number.Given as goal

abbrev pub invariant-loop-place : goal.invariant-loop-place
invariant-loop-place l =
    ((new : Line) → Sends l.self new (number_bits l.place l.number)
    → Sends l.initial.self new (number_bits l.count l.number))
    × (l.self.sent + 2 * l.place ≤ l.initial.self.sent + 2 * l.count)
