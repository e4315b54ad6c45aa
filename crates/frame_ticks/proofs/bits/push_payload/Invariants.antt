-- the bits of the bytes so far are there
use Rattle.std.proofs.Common.{◌≡◌, ◌++◌, take}
use Rattle.frame_ticks.specs.Bits.{payload_bits}
use Rattle.frame_ticks.proofs.bits.push_payload.Given as goal

abbrev pub invariant-loop-byte : goal.invariant-loop-byte
invariant-loop-byte l = l.bits.items ≡ l.initial.bits.items ++ payload_bits (take l.byte-index l.payload)
