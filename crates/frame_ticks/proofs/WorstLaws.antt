-- Laws of the greatest length of a frame, for the proofs of callers.
use Rattle.std.proofs.Common.{ℕ, ◌+◌, ◌-◌, ◌*◌, ◌≤◌, arith}
use Rattle.std.proofs.Math.Nat.{mul-le-mul_right}
use Rattle.std.proofs.lemmas.Bool.Decides.{nat_tests}
use Rattle.pack_model.specs.Network.{NetworkStands}
use Rattle.pack_model.specs.declared.network.Network.{Network}
use Rattle.frame_ticks.specs.Worst.{crc_bits_of, worst_ticks_of}

-- the CRC field never shrinks as data bytes are added
pub crc_bits_of-rises : (size larger : ℕ) → size ≤ larger → crc_bits_of size ≤ crc_bits_of larger
crc_bits_of-rises size larger rises = grind (arith, nat_tests)

-- each further data byte takes ten data bits at least
pub worst_ticks_of-step : (network : Network) (size larger : ℕ) → size ≤ larger
    → worst_ticks_of network size + 10 * (larger - size) * network.data_ticks ≤ worst_ticks_of network larger
worst_ticks_of-step network size larger rises =
    let crc = crc_bits_of-rises size larger rises in
    let more =
    mul-le-mul_right {m = 6 + 10 * size + crc_bits_of
    size + 10 * (larger - size)} {n = 6 + 10 * larger + crc_bits_of larger} network.data_ticks
    (omega arith) in
    omega (arith, more)

-- more data bytes never take fewer ticks
pub worst_ticks_of-rises : (network : Network) (size larger : ℕ) → size ≤ larger
    → worst_ticks_of network size ≤ worst_ticks_of network larger
worst_ticks_of-rises network size larger rises = omega (arith, worst_ticks_of-step network size larger rises)

-- the data bytes take ten data bits each at least
pub worst_ticks_of-data : (network : Network) (size : ℕ)
    → 10 * size * network.data_ticks ≤ worst_ticks_of network size
worst_ticks_of-data network size = omega (arith, worst_ticks_of-step network 0 size (omega arith))

-- on a network that stands each frame takes some time
pub worst_ticks_of-some : (network : Network) (size : ℕ) → NetworkStands network
    → 33 ≤ worst_ticks_of network size
worst_ticks_of-some network size stands = omega (arith, stands.nominal_low)
