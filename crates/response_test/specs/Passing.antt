use Rattle.std.specs.Prelude.{◌≡◌, ℕ, ◌+◌, ◌*◌, ◌<◌, ◌≤◌}
use Rattle.busy_period.specs.declared.timed.Timed.{Timed}
use Rattle.busy_period.specs.Demand.{instances_of}
use Rattle.busy_period.specs.Least.{IsLeast}
use Rattle.busy_period.specs.Busy.{IsShortBusy, LeastBusy}

-- an instance can start at a time: all that comes before it fits
abbrev pub CanStart : (ℕ → ℕ → ℕ) → ℕ → ℕ → Type 0
CanStart queueing instance start = queueing instance start ≤ start

-- an instance that starts at a time of the busy period ends by its deadline
abbrev pub IsInTime : Timed → ℕ → ℕ → Type 0
IsInTime own instance start = own.jitter + start + own.ticks ≤ own.deadline + instance * own.period

-- an instance passes: the least time at which it can start is in time
pub record InstancePasses (own : Timed) (queueing : ℕ → ℕ → ℕ) (instance : ℕ) : Type 0 where
  pub start : ℕ
  pub least : IsLeast (CanStart queueing instance) start
  pub in_time : IsInTime own instance start

-- the written test: there is a busy period within 256 instances, and each instance in it passes
pub record Passes (own : Timed) (demand : ℕ → ℕ) (queueing : ℕ → ℕ → ℕ) : Type 0 where
  pub busy : ℕ
  pub least : LeastBusy own demand busy
  pub each : (instance : ℕ) → instance < instances_of own busy → InstancePasses own queueing instance

-- an instance is shown to pass: at some time it can start, and is in time
pub record InstanceShown (own : Timed) (queueing : ℕ → ℕ → ℕ) (instance : ℕ) : Type 0 where
  pub start : ℕ
  pub can_start : CanStart queueing instance start
  pub in_time : IsInTime own instance start

-- the test with any busy period and any starts in the place of the least ones
pub record Shown (own : Timed) (demand : ℕ → ℕ) (queueing : ℕ → ℕ → ℕ) : Type 0 where
  pub busy : ℕ
  pub holds : IsShortBusy own demand busy
  pub each : (instance : ℕ) → instance < instances_of own busy → InstanceShown own queueing instance

-- an instance that starts as early as it can ends this long after its arrival
pub record Responds (own : Timed) (queueing : ℕ → ℕ → ℕ) (instance response : ℕ) : Type 0 where
  pub start : ℕ
  pub least : IsLeast (CanStart queueing instance) start
  pub ends : response + instance * own.period ≡ own.jitter + start + own.ticks

-- the worst response: the greatest of the instances in the busy period
pub record WorstResponse (own : Timed) (demand : ℕ → ℕ) (queueing : ℕ → ℕ → ℕ) (response : ℕ) : Type 0 where
  pub busy : ℕ
  pub least : LeastBusy own demand busy
  pub instance : ℕ
  pub inside : instance < instances_of own busy
  pub responds : Responds own queueing instance response
  pub greatest : (other response' : ℕ) → other < instances_of own busy → Responds own queueing other response'
      → response' ≤ response
