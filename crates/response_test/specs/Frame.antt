use Rattle.std.specs.Prelude.{◌≡◌, ℕ, ◌+◌, ◌*◌, ◌<◌, List, length, slice_index}
use Rattle.busy_period.specs.declared.timed.Timed.{Timed}
use Rattle.busy_period.specs.Timed.{frame_at}
use Rattle.busy_period.specs.Stage.{own_number, own_of, higher_of, lower_of}
use Rattle.busy_period.specs.Demand.{instances_of, asks_of, work_of, demand_against, demand_of}
use Rattle.busy_period.specs.Least.{IsLeast}
use Rattle.busy_period.specs.Busy.{FrameBusy, FrameLeastBusy}
use Rattle.response_test.specs.Queueing.{queueing_against, queueing_of}
use Rattle.response_test.specs.Passing.{CanStart, IsInTime, InstancePasses, Passes, WorstResponse}

-- an instance of the frame at a place can start at a time
abbrev pub FrameCanStart : List Timed → List ℕ → ℕ → ℕ → ℕ → ℕ → Type 0
FrameCanStart frames order place bit = CanStart (queueing_of frames order place bit)

-- the least time at which an instance of the frame at a place can start
abbrev pub FrameLeastStart : List Timed → List ℕ → ℕ → ℕ → ℕ → ℕ → Type 0
FrameLeastStart frames order place bit instance = IsLeast (FrameCanStart frames order place bit instance)

-- an instance of the frame at a place that starts at a time ends by its deadline
abbrev pub FrameIsInTime : List Timed → List ℕ → ℕ → ℕ → ℕ → Type 0
FrameIsInTime frames order place = IsInTime (own_of frames order place)

-- an instance of a frame passes against higher frames, and lower ones that block it for this many ticks
abbrev pub InstancePassesBlocked : List Timed → ℕ → List ℕ → ℕ → ℕ → ℕ → Type 0
InstancePassesBlocked frames own higher blocked bit =
    InstancePasses (frame_at frames own)
    (λ instance start. blocked + instance * (frame_at frames own).ticks + work_of frames higher (start + bit))

-- an instance of the frame at a place passes
abbrev pub FrameInstancePasses : List Timed → List ℕ → ℕ → ℕ → ℕ → Type 0
FrameInstancePasses frames order place bit =
    InstancePasses (own_of frames order place) (queueing_of frames order place bit)

-- a frame passes the written test against higher frames, and lower ones that block it for this many ticks
abbrev pub PassesBlocked : List Timed → ℕ → List ℕ → ℕ → ℕ → Type 0
PassesBlocked frames own higher blocked bit =
    Passes (frame_at frames own) (λ time. blocked + work_of frames higher time + asks_of (frame_at frames own) time)
    (λ instance start. blocked + instance * (frame_at frames own).ticks + work_of frames higher (start + bit))

-- a frame passes the written test against higher and lower ones
abbrev pub PassesAgainst : List Timed → ℕ → List ℕ → List ℕ → ℕ → Type 0
PassesAgainst frames own higher lower bit =
    Passes (frame_at frames own) (demand_against frames own higher lower) (queueing_against frames own higher lower bit)

-- the frame at a place passes the written test
abbrev pub FramePasses : List Timed → List ℕ → ℕ → ℕ → Type 0
FramePasses frames order place =
    PassesAgainst frames (own_number order place) (higher_of order place) (lower_of order place)

-- the worst response of the frame at a place
abbrev pub FrameWorstResponse : List Timed → List ℕ → ℕ → ℕ → ℕ → Type 0
FrameWorstResponse frames order place bit =
    WorstResponse (own_of frames order place) (demand_of frames order place) (queueing_of frames order place bit)

-- a number of an instance in the least busy period of the frame at a place
pub record HasInstance (frames : List Timed) (order : List ℕ) (place instance : ℕ) : Type 0 where
  pub busy : ℕ
  pub least : FrameLeastBusy frames order place busy
  pub inside : instance < instances_of (own_of frames order place) busy

-- given numbers show that the frame at a place passes: a busy period within 256 instances, and for each instance in it
-- a time at which it can start and is in time
pub record IsShown (frames : List Timed) (order : List ℕ) (place bit busy : ℕ) (starts : List ℕ) : Type 0 where
  pub holds : FrameBusy frames order place busy
  pub count : length starts ≡ instances_of (own_of frames order place) busy
  pub can_start : (instance : ℕ) → instance < length starts
      → FrameCanStart frames order place bit instance (slice_index starts instance)
  pub in_time : (instance : ℕ) → instance < length starts
      → FrameIsInTime frames order place instance (slice_index starts instance)
