-- What the frames of a level ask for, once and in a busy period.
use Rattle.std.specs.Prelude.{◌≡◌, ℕ, ◌+◌, ◌-◌, ◌<◌, ◌≤◌, List, length, All, slice_index, sum_by, IfSome}
use Rattle.busy_period.specs.declared.timed.Timed.{Timed}
use Rattle.busy_period.specs.Timed.{frame_at}
use Rattle.busy_period.specs.Busy.{IsFit}
use Rattle.priority_assign.specs.declared.once.Once.{Once}

-- the ticks of the frames of these numbers, one sending each
abbrev pub ticks_of : List Timed → List ℕ → ℕ
ticks_of frames numbers = sum_by (λ number. (frame_at frames number).ticks) numbers

-- each frame of these numbers asks at most once within a time
abbrev pub AskOnce : List Timed → List ℕ → ℕ → Type 0
AskOnce frames numbers time =
    All (λ number. time ≤ (frame_at frames number).period - (frame_at frames number).jitter) numbers

-- what the frames of these numbers ask for once, a time within which none asks twice, and a busy period of a
-- level of them that lower frames block for so many ticks, if one is known
pub record IsOnce (frames : List Timed) (numbers : List ℕ) (blocked : ℕ) (once : Once) : Type 0 where
  pub ticks : once.ticks ≡ ticks_of frames numbers
  pub few : once.ticks ≤ 12800000000
  pub window : AskOnce frames numbers once.window
  pub busy : IfSome once.busy (IsFit frames numbers blocked 0 1)

-- the frame at an index of a level ends by its deadline where all of the level are sent once, after so many ticks
abbrev pub EndsInTime : List Timed → List ℕ → ℕ → ℕ → Type 0
EndsInTime frames level busy index =
    (frame_at frames (slice_index level index)).jitter + busy ≤ (frame_at frames (slice_index level index)).deadline

-- the last index of a level whose frame ends by its deadline
pub record IsLastInTime (frames : List Timed) (level : List ℕ) (busy index : ℕ) : Type 0 where
  pub inside : index < length level
  pub in_time : EndsInTime frames level busy index
  pub none_later : (later : ℕ) → index < later → later < length level → ¬ (EndsInTime frames level busy later)
