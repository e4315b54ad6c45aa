-- How long a frame lasts, by its bits.
use Rattle.std.specs.Prelude.{◌≡◌, ℕ, ◌+◌, ◌-◌, ◌*◌, ◌/◌, Bool, true, List, ◌++◌, length, take, drop}
use Rattle.pack_model.specs.declared.network.Network.{Network}
use Rattle.frame_ticks.specs.Stuffing.{Stuffed, no_run, run_of, stuffed_of}
use Rattle.frame_ticks.specs.Worst.{crc_bits_of}

-- the bits from the start of frame to BRS
abbrev pub to_brs : List Bool → List Bool
to_brs bits = take 17 bits

-- the bits after BRS
abbrev pub after_brs : List Bool → List Bool
after_brs bits = drop 17 bits

-- the data bytes of a frame with these bits
abbrev pub size_of_bits : List Bool → ℕ
size_of_bits bits = (length bits - 22) / 8

-- the ticks of a frame of so many data bytes, by the number of bits sent up to and with BRS, and of
-- those sent from there to the last data bit: the former and the 13 from the CRC delimiter on are
-- nominal, the latter and the CRC field are data bits
abbrev pub ticks_sent : Network → ℕ → ℕ → ℕ → ℕ
ticks_sent network size nominal others =
    (nominal + 13) * network.nominal_ticks + (others + crc_bits_of size) * network.data_ticks

-- a frame with these bits lasts so long. The bits sent up to and with BRS are what stuffing makes of
-- the bits up to BRS, since BRS ends no run of five: it is the opposite of the bit before it.
pub record Lasts (network : Network) (bits : List Bool) (ticks : ℕ) : Type 0 where
  pub nominal : List Bool
  pub others : List Bool
  pub sent_to_brs : Stuffed 0 true (to_brs bits) nominal
  pub sent : Stuffed 0 true bits (nominal ++ others)
  pub counted : ticks ≡ ticks_sent network (size_of_bits bits) (length nominal) (length others)

-- how long a frame with these bits lasts, computed: the bits after BRS carry on the run that those up
-- to BRS leave
abbrev pub ticks_of : Network → List Bool → ℕ
ticks_of network bits =
    ticks_sent network (size_of_bits bits) (length (stuffed_of no_run (to_brs bits)))
    (length (stuffed_of (run_of no_run (to_brs bits)) (after_brs bits)))
