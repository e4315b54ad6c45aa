-- The least numbers that show that frames pass the written test.
use Rattle.std.specs.Prelude.{◌≡◌, ◌<◌, ℕ, List, length, slice_index, slice_index_or}
use Rattle.busy_period.specs.declared.timed.Timed.{Timed}
use Rattle.busy_period.specs.Busy.{FrameLeastBusy}
use Rattle.busy_period.specs.Demand.{instances_of}
use Rattle.busy_period.specs.Stage.{own_of}
use Rattle.response_test.specs.Frame.{FrameLeastStart}
use Rattle.cert_text.specs.declared.parts.FrameLine.{FrameLine}

-- the line has the least busy period of the frame at a place, and for each instance in it the least time at
-- which it can start
pub record IsLeastLine (frames : List Timed) (order : List ℕ) (bit place : ℕ)
    (line : FrameLine) : Type 0 where
  pub busy : FrameLeastBusy frames order place line.busy
  pub count : length line.queue ≡ instances_of (own_of frames order place) line.busy
  pub starts : (instance : ℕ) → instance < length line.queue
      → FrameLeastStart frames order place bit instance (slice_index line.queue instance)

-- there is such a line for each place of the order
pub record AreLeastLines (frames : List Timed) (order : List ℕ) (bit : ℕ)
    (lines : List FrameLine) : Type 0 where
  pub count : length lines ≡ length order
  pub each : (place : ℕ) (d : FrameLine) → place < length lines
      → IsLeastLine frames order bit place (slice_index_or lines place d)
