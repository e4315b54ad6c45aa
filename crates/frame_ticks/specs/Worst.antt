-- The greatest length of a CAN FD frame by its number of data bytes.
use Rattle.std.specs.Prelude.{ℕ, ◌+◌, ◌*◌, nat_le, if◌then◌else◌}
use Rattle.pack_model.specs.declared.network.Network.{Network}

-- the bits of ISO 11898-1's CRC field without its delimiter: a stuff count of 4 bits, a CRC of 17 or
-- 21 bits, and 6 or 7 fixed stuff bits
abbrev pub crc_bits_of : ℕ → ℕ
crc_bits_of size = if nat_le size 16 then 27 else 32

-- the greatest length in ticks of a frame with so many data bytes: 33 nominal bits, three inserted
-- ones among them, and the data bits with the most inserted ones
abbrev pub worst_ticks_of : Network → ℕ → ℕ
worst_ticks_of network size =
    33 * network.nominal_ticks + (6 + 10 * size + crc_bits_of size) * network.data_ticks
