use Rattle.std.specs.Prelude.{ℕ, ◌≤◌, ◌⊎◌, List, Contains, nat_eq}
use Rattle.std.specs.List.{IsDistinct}
use Rattle.busy_period.specs.declared.timed.Timed.{Timed}
use Rattle.busy_period.specs.Timed.{frame_at}

-- a frame is no easier to send in time than another: it asks for no less, and has no more time
pub record IsHarder (frame harder : Timed) : Type 0 where
  pub some_period : 1 ≤ harder.period
  pub period : harder.period ≤ frame.period
  pub jitter : frame.jitter ≤ harder.jitter
  pub ticks : frame.ticks ≤ harder.ticks
  pub deadline : harder.deadline ≤ frame.deadline

-- a frame that was lower stays lower, or moves to the higher ones
abbrev pub StaysOrMovesUp : List ℕ → List ℕ → List ℕ → ℕ → Type 0
StaysOrMovesUp higher higher' lower' number =
    Contains lower' number ⊎ ((¬ (Contains higher number)) × Contains higher' number)

-- what the higher and lower frames are and ask for grows: each is no easier, higher ones stay higher, lower
-- ones stay or move up, and others may join
pub record Grows (frames : List Timed) (higher lower : List ℕ) (frames' : List Timed)
    (higher' lower' : List ℕ) : Type 0 where
  pub distinct : IsDistinct nat_eq higher
  pub stay_higher : (number : ℕ) → Contains higher number → Contains higher' number
  pub stay_or_move_up : (number : ℕ) → Contains lower number → StaysOrMovesUp higher higher' lower' number
  pub higher_harder : (number : ℕ) → Contains higher number
      → IsHarder (frame_at frames number) (frame_at frames' number)
  pub lower_harder : (number : ℕ) → Contains lower number
      → IsHarder (frame_at frames number) (frame_at frames' number)
