use Rattle.std.specs.Prelude.{ℕ, ◌+◌, ◌*◌, List, [], ◌∷◌, max, sum_by}
use Rattle.std.specs.Int.{div_ceil}
use Rattle.busy_period.specs.declared.timed.Timed.{Timed}
use Rattle.busy_period.specs.Timed.{frame_at}
use Rattle.busy_period.specs.Stage.{own_number, higher_of, lower_of}

-- the most instances of a frame that are queued within a time: ceil((time + J) / T)
abbrev pub instances_of : Timed → ℕ → ℕ
instances_of frame time = div_ceil (time + frame.jitter) frame.period

-- the most ticks that a frame asks for within a time
abbrev pub asks_of : Timed → ℕ → ℕ
asks_of frame time = instances_of frame time * frame.ticks

-- the most ticks that the frames of these numbers ask for within a time
abbrev pub work_of : List Timed → List ℕ → ℕ → ℕ
work_of frames numbers time = sum_by (λ number. asks_of (frame_at frames number) time) numbers

-- the greatest ticks of the frames of these numbers, or 0: a lower frame on the bus is not interrupted
abbrev pub blocking_of : List Timed → List ℕ → ℕ
blocking_of frames [] = 0
blocking_of frames (number ∷ rest) = max (frame_at frames number).ticks (blocking_of frames rest)

-- the demand at the level of a frame within a time, against higher and lower ones: blocking by a lower one,
-- and the work of the higher ones and of its own
abbrev pub demand_against : List Timed → ℕ → List ℕ → List ℕ → ℕ → ℕ
demand_against frames own higher lower time =
    blocking_of frames lower + work_of frames higher time + asks_of (frame_at frames own) time

-- the demand at the level of the frame at a place
abbrev pub demand_of : List Timed → List ℕ → ℕ → ℕ → ℕ
demand_of frames order place =
    demand_against frames (own_number order place) (higher_of order place) (lower_of order place)
