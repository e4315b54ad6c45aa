-- Times of a level that tell of most of its frames whether they pass.
use Rattle.std.specs.Prelude.{◌≡◌, ℕ, ◌+◌, ◌<◌, ◌≤◌, ◌^◌, List}
use Rattle.busy_period.specs.declared.timed.Timed.{Timed}
use Rattle.busy_period.specs.Least.{IsLeast}
use Rattle.busy_period.specs.Busy.{IsFit}
use Rattle.priority_assign.specs.declared.level.Times.{Times}
use Rattle.priority_assign.specs.Once.{ticks_of}

-- no time of at least a tick before this holds all that the frames of a level ask for within it
abbrev pub NoneBefore : List Timed → List ℕ → ℕ → Type 0
NoneBefore frames level first = (time : ℕ) → IsFit frames level 0 0 1 time → first ≤ time

-- the times of a level that lower frames block for so many ticks
pub record AreTimes (frames : List Timed) (level : List ℕ) (blocked : ℕ) (times : Times) : Type 0 where
  pub asked : times.asked ≡ blocked + ticks_of frames level
  pub short : times.asked ≤ 2 ^ 46
  pub first : NoneBefore frames level times.first
  pub low : times.first ≤ 2 ^ 46
  pub busy : IsLeast (IsFit frames level blocked 0 1) times.busy
  pub limit : times.busy ≤ 2 ^ 45

-- a frame that is blocked for about as long as it is sent, or longer, has one instance by its deadline, and is
-- late by the first time that holds what its level asks for
pub record IsLateByLevel (own : Timed) (blocked bit first : ℕ) : Type 0 where
  pub blocks : own.ticks ≤ blocked + bit
  pub one : own.deadline ≤ own.period
  pub late : own.deadline + bit < own.jitter + first + own.ticks
