-- The frames of a bus.
use Rattle.std.specs.Prelude.{◌≡◌, ℕ, ◌<◌, ◌≤◌, List, All, length, map, slice_index_or}
use Rattle.frame_ticks.specs.declared.bits.TheConstants.{IDENTIFIERS}
use Rattle.busy_period.specs.declared.timed.TheConstants.{MAX_FRAMES}
use Rattle.pack_model.specs.declared.network.Network.{Network}
use Rattle.fd_length.specs.Size.{IsSize}
use Rattle.frame_ticks.specs.Worst.{worst_ticks_of}
use Rattle.busy_period.specs.declared.timed.Timed.{Timed}
use Rattle.busy_period.specs.Timed.{IsInRange, none_frame}
use Rattle.bus_run.specs.declared.run.BusFrame.{BusFrame}

-- no frame
abbrev pub none_bus_frame : BusFrame
none_bus_frame = record { id = 0; size = 0; timed = none_frame }

-- the frame at a number
abbrev pub bus_frame_at : List BusFrame → ℕ → BusFrame
bus_frame_at frames number = slice_index_or frames number none_bus_frame

-- the times of the frames
abbrev pub times_of : List BusFrame → List Timed
times_of frames = map (λ (frame : BusFrame). frame.timed) frames

-- the frames of a bus: at most 128, by ascending identifier, each of a size of CAN FD, with times in range
pub record AreBusFrames (frames : List BusFrame) : Type 0 where
  pub few : length frames ≤ MAX_FRAMES
  pub ascending : (earlier later : ℕ) → earlier < later → later < length frames
      → (bus_frame_at frames earlier).id < (bus_frame_at frames later).id
  pub id_high : All (λ frame. frame.id < IDENTIFIERS) frames
  pub listed : All (λ frame. IsSize frame.size) frames
  pub in_range : All IsInRange (times_of frames)

-- the ticks of each frame are those of the longest of its size on a network
abbrev pub HaveWorstTicks : Network → List BusFrame → Type 0
HaveWorstTicks network frames = All (λ frame. frame.timed.ticks ≡ worst_ticks_of network frame.size) frames
