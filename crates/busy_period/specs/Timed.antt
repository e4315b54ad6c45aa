use Rattle.std.specs.Prelude.{ℕ, ◌≤◌, List, slice_index_or}
use Rattle.busy_period.specs.declared.timed.Timed.{Timed}

-- the times of a frame are within the limits of a stage
pub record IsInRange (frame : Timed) : Type 0 where
  pub some_period : 1 ≤ frame.period
  pub period : frame.period ≤ 100000000000
  pub jitter : frame.jitter ≤ 100000000000
  pub some_ticks : 1 ≤ frame.ticks
  pub ticks : frame.ticks ≤ 100000000
  pub some_deadline : 1 ≤ frame.deadline
  pub deadline : frame.deadline ≤ 100000000000

-- no frame
abbrev pub none_frame : Timed
none_frame = record { period = 0; jitter = 0; ticks = 0; deadline = 0 }

-- the frame of a number
abbrev pub frame_at : List Timed → ℕ → Timed
frame_at frames number = slice_index_or frames number none_frame
