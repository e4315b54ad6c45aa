use Rattle.std.specs.Prelude.{ℕ, ◌+◌, ◌*◌, ◌≤◌, List, All}
use Rattle.busy_period.specs.declared.timed.Timed.{Timed}
use Rattle.busy_period.specs.Timed.{frame_at}
use Rattle.busy_period.specs.Stage.{own_number, higher_of, lower_of}
use Rattle.busy_period.specs.Demand.{work_of, blocking_of}

-- the time of a nominal bit: at least 1, and at most the ticks of each frame
pub record IsBit (frames : List Timed) (bit : ℕ) : Type 0 where
  pub some : 1 ≤ bit
  pub within : All (λ frame. bit ≤ frame.ticks) frames

-- the demand before an instance of a frame starts, against higher and lower ones: blocking by a lower one, the instances
-- of the frame before it, and the work of higher ones that are queued up to one bit later, since a frame joins within one
-- nominal bit
abbrev pub queueing_against : List Timed → ℕ → List ℕ → List ℕ → ℕ → ℕ → ℕ → ℕ
queueing_against frames own higher lower bit instance start =
    blocking_of frames lower + instance * (frame_at frames own).ticks + work_of frames higher (start + bit)

-- the demand before an instance of the frame at a place starts
abbrev pub queueing_of : List Timed → List ℕ → ℕ → ℕ → ℕ → ℕ → ℕ
queueing_of frames order place =
    queueing_against frames (own_number order place) (higher_of order place) (lower_of order place)
