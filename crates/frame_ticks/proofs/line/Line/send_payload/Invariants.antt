-- the bits of the bytes so far are sent
use Rattle.std.proofs.Common.{◌+◌, ◌*◌, ◌≤◌, take}
use Rattle.frame_ticks.specs.Bits.{payload_bits}
use Rattle.frame_ticks.specs.Line.{Sends}
use Rattle.frame_ticks.proofs.line.Line.send_payload.Given as goal

abbrev pub invariant-loop-byte : goal.invariant-loop-byte
invariant-loop-byte l =
    Sends l.initial.self l.self (payload_bits (take l.byte-index l.payload))
    × (l.self.sent ≤ l.initial.self.sent + 16 * l.byte-index)
