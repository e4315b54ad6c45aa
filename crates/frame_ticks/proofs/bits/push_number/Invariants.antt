-- what is there, with the bits from the place down, is what was there, with all bits
use Rattle.std.proofs.Common.{◌≡◌, ◌++◌}
use Rattle.frame_ticks.specs.Bits.{number_bits}
use Rattle.frame_ticks.proofs.bits.push_number.Given as goal

abbrev pub invariant-loop-place : goal.invariant-loop-place
invariant-loop-place l =
    l.bits.items ++ number_bits l.place l.number ≡ l.initial.bits.items ++ number_bits l.count l.number
