-- the bits so far are sent
use Rattle.std.proofs.Common.{◌+◌, ◌*◌, ◌≤◌, take}
use Rattle.frame_ticks.specs.Line.{Sends}
use Rattle.frame_ticks.proofs.line.Line.send_all.Given as goal

abbrev pub invariant-loop-bit : goal.invariant-loop-bit
invariant-loop-bit l =
    Sends l.initial.self l.self (take l.bit-index l.bits)
    × (l.self.sent ≤ l.initial.self.sent + 2 * l.bit-index)
