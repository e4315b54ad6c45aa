-- What the definitions of stuffing and of a frame's length promise.
use Rattle.std.specs.Prelude.{◌≡◌, ◌↔◌, ℕ, Bool, List}
use Rattle.pack_model.specs.declared.network.Network.{Network}
use Rattle.frame_ticks.specs.Stuffing.{Stuffed, no_run, stuffed_of}
use Rattle.frame_ticks.specs.Ticks.{Lasts, ticks_of}

-- the bits of a frame are sent in exactly one way
abbrev pub OneOutcome : Type 0
OneOutcome = (value : Bool) (bits out : List Bool)
    → Stuffed 0 value bits out ↔ (out ≡ stuffed_of no_run bits)

-- a frame with these bits has exactly one length
abbrev pub OneLength : Type 0
OneLength = (network : Network) (bits : List Bool) (ticks : ℕ)
    → Lasts network bits ticks ↔ (ticks ≡ ticks_of network bits)
