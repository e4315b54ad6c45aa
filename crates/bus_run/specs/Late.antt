-- Releases that are late, and the order of the frames on a bus.
use Rattle.std.specs.Prelude.{◌≡◌, ℕ, ◌+◌, ◌<◌, ◌≤◌, List, length, slice_index}
use Rattle.bus_run.specs.declared.run.BusFrame.{BusFrame}
use Rattle.pack_model.specs.declared.network.Network.{Network}
use Rattle.response_test.specs.Frame.{IsShown}
use Rattle.bus_run.specs.Frames.{bus_frame_at, times_of}
use Rattle.bus_run.specs.Run.{Course, release_at, send_at, end_at}

-- when the sending of a release is to have ended
abbrev pub due : List BusFrame → Course → ℕ → ℕ
due frames run release =
    (release_at run release).arrival + (bus_frame_at frames (release_at run release).frame).timed.deadline

-- a send carries a release, and ends by a time
pub record EndsBy (run : Course) (release time number : ℕ) : Type 0 where
  pub there : number < length run.sends
  pub carries : (send_at run number).release ≡ release
  pub ended : end_at run number ≤ time

-- a release misses a time: the time is within the run, and no send of the release ends by then
pub record Misses (run : Course) (release time : ℕ) : Type 0 where
  pub there : release < length run.releases
  pub judged : time ≤ run.until
  pub missed : (number : ℕ) → EndsBy run release time number → ⊥

-- a release is late: it misses its deadline
abbrev pub IsLate : List BusFrame → Course → ℕ → Type 0
IsLate frames run release = Misses run release (due frames run release)

-- the order of so many frames by their numbers, and a place in it
pub record IsByNumber (count : ℕ) (order : List ℕ) (place : ℕ) : Type 0 where
  pub all : length order ≡ count
  pub each : (number : ℕ) → number < length order → slice_index order number ≡ number
  pub inside : place < length order

-- each frame of a bus is shown, in the order of the frames
pub record IsShownAt (network : Network) (frames : List BusFrame) (order : List ℕ) (place : ℕ) : Type 0 where
  pub busy : ℕ
  pub starts : List ℕ
  pub shown : IsShown (times_of frames) order place network.nominal_ticks busy starts
