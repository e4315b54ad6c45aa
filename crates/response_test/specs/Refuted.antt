-- Evidence that a frame doesn't pass the written test.
use Rattle.std.specs.Prelude.{◌≡◌, ℕ, ◌+◌, ◌*◌, ◌/◌, ◌%◌, ◌<◌, ◌≤◌, ◌^◌, min, List, take, sum_by, All}
use Rattle.busy_period.specs.declared.timed.Timed.{Timed}
use Rattle.busy_period.specs.Timed.{frame_at}
use Rattle.busy_period.specs.Stage.{own_of}
use Rattle.busy_period.specs.Demand.{demand_of}
use Rattle.busy_period.specs.Busy.{FrameBusy}
use Rattle.response_test.specs.declared.evidence.Evidence.{Evidence}
use Rattle.response_test.specs.declared.evidence.Evidence.TheVariants.{Over, Long, Late}
use Rattle.response_test.specs.Queueing.{queueing_of}
use Rattle.response_test.specs.Frame.{FrameInstancePasses, HasInstance}
use Rattle.response_test.specs.Chain.{IsChain, IsClimb, first_above, last_of}

-- a common period of the frames: a multiple of each period, from 1 to 10^15
pub record IsCommon (frames : List Timed) (hyper : ℕ) : Type 0 where
  pub some : 1 ≤ hyper
  pub within : hyper ≤ 1000000000000000
  pub multiple : All (λ frame. hyper % frame.period ≡ 0) frames

-- the ticks that the frames of these numbers send within a common period
abbrev pub sent_of : List Timed → List ℕ → ℕ → ℕ
sent_of frames numbers hyper = sum_by (λ number. (frame_at frames number).ticks * (hyper / (frame_at frames number).period)) numbers

-- the frame at a place and the higher ones ask for more than the whole bus
abbrev pub IsOver : List Timed → List ℕ → ℕ → ℕ → Type 0
IsOver frames order place hyper = hyper < sent_of frames (take (place + 1) order) hyper

-- a chain by the demand at the frame's level ends past the limit of 256 instances
pub record IsLong (frames : List Timed) (order : List ℕ) (place : ℕ) (chain : List ℕ) : Type 0 where
  pub is_chain : IsChain (demand_of frames order place) 1 chain
  pub past : 256 * (own_of frames order place).period < last_of chain + (own_of frames order place).jitter

-- a chain by the demand at the frame's level ends where an instance is in the busy period, and one by the demand before
-- that instance ends where it is too late to start
pub record IsLate (frames : List Timed) (order : List ℕ) (place bit instance : ℕ) (busy queue : List ℕ) : Type 0 where
  pub low : instance ≤ 2 ^ 45
  pub busy_chain : IsChain (demand_of frames order place) 1 busy
  pub inside : instance * (own_of frames order place).period < last_of busy + (own_of frames order place).jitter
  pub queue_chain : IsChain (queueing_of frames order place bit instance) 0 queue
  pub late : (own_of frames order place).deadline + instance * (own_of frames order place).period
      < (own_of frames order place).jitter + last_of queue + (own_of frames order place).ticks

-- evidence stands: the frame at a place is refuted by it
abbrev pub Refuted : List Timed → List ℕ → ℕ → ℕ → ℕ → Evidence → Type 0
Refuted frames order place bit hyper Over = IsOver frames order place hyper
Refuted frames order place bit hyper (Long chain) = IsLong frames order place chain
Refuted frames order place bit hyper (Late instance busy queue) = IsLate frames order place bit instance busy queue

-- the first instance in the busy period of the frame at a place that doesn't pass
pub record IsFirstLate (frames : List Timed) (order : List ℕ) (place bit instance : ℕ) : Type 0 where
  pub inside : HasInstance frames order place instance
  pub late : ¬ (FrameInstancePasses frames order place bit instance)
  pub before : (k : ℕ) → k < instance → FrameInstancePasses frames order place bit k

-- the least time that is not within 256 instances of the frame at a place
abbrev pub first_long : List Timed → List ℕ → ℕ → ℕ
first_long frames order place = first_above (256 * (own_of frames order place).period) (own_of frames order place).jitter

-- the least time that has an instance of the frame at a place in a busy period of that length
abbrev pub first_with : List Timed → List ℕ → ℕ → ℕ → ℕ
first_with frames order place instance =
    first_above (instance * (own_of frames order place).period) (own_of frames order place).jitter

-- the least time at which it is too late for an instance of the frame at a place to start
abbrev pub first_late : List Timed → List ℕ → ℕ → ℕ → ℕ
first_late frames order place instance =
    first_above ((own_of frames order place).deadline + instance * (own_of frames order place).period)
    ((own_of frames order place).jitter + (own_of frames order place).ticks)

-- the climb by the demand at a frame's level past 256 instances, no time higher than need be
abbrev pub IsLongClimb : List Timed → List ℕ → ℕ → List ℕ → Type 0
IsLongClimb frames order place =
    IsClimb (λ time. min (demand_of frames order place time) (first_long frames order place)) 1 (first_long frames order place)

-- the evidence where no busy period is within 256 instances
pub record IsLongOf (frames : List Timed) (order : List ℕ) (place hyper : ℕ) (chain : List ℕ) : Type 0 where
  pub not_over : ¬ (IsOver frames order place hyper)
  pub none : (time : ℕ) → ¬ (FrameBusy frames order place time)
  pub climb : IsLongClimb frames order place chain

-- the evidence where an instance doesn't pass: its number, and the two climbs
pub record IsLateOf (frames : List Timed) (order : List ℕ) (place bit hyper instance : ℕ) (busy queue : List ℕ) : Type 0 where
  pub not_over : ¬ (IsOver frames order place hyper)
  pub first : IsFirstLate frames order place bit instance
  pub busy_climb : IsClimb (demand_of frames order place) 1 (first_with frames order place instance) busy
  pub queue_climb : IsClimb (queueing_of frames order place bit instance) 0 (first_late frames order place instance) queue

-- the one evidence of a stage whose frame doesn't pass: the over-full bus first, then no busy period, then the first
-- instance that doesn't pass
abbrev pub IsEvidenceOfStage : List Timed → List ℕ → ℕ → ℕ → ℕ → Evidence → Type 0
IsEvidenceOfStage frames order place bit hyper Over = IsOver frames order place hyper
IsEvidenceOfStage frames order place bit hyper (Long chain) = IsLongOf frames order place hyper chain
IsEvidenceOfStage frames order place bit hyper (Late instance busy queue) =
    IsLateOf frames order place bit hyper instance busy queue
