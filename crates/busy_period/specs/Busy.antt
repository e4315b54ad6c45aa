use Rattle.std.specs.Prelude.{ℕ, ◌+◌, ◌*◌, ◌≤◌, List}
use Rattle.busy_period.specs.declared.timed.Timed.{Timed}
use Rattle.busy_period.specs.Stage.{own_of}
use Rattle.busy_period.specs.Demand.{work_of, demand_of}
use Rattle.busy_period.specs.Least.{IsLeast}

-- from a least time on: base ticks and all that the frames ask for within the time and a little ahead fit
-- into it
pub record IsFit (frames : List Timed) (numbers : List ℕ) (base ahead from time : ℕ) : Type 0 where
  pub begun : from ≤ time
  pub done : base + work_of frames numbers (time + ahead) ≤ time

-- so many ticks after a time at which a gap is left, the gap and all that the frames ask for meanwhile are done
abbrev pub IsMadeUp : List Timed → List ℕ → ℕ → ℕ → ℕ → Type 0
IsMadeUp frames numbers time gap more =
    work_of frames numbers (time + more) + gap ≤ work_of frames numbers time + more

-- after a time of at least one tick all that was asked for within it is done
pub record IsBusy (demand : ℕ → ℕ) (time : ℕ) : Type 0 where
  pub some : 1 ≤ time
  pub done : demand time ≤ time

-- a time is within 256 instances of a frame
abbrev pub IsShort : Timed → ℕ → Type 0
IsShort own time = time + own.jitter ≤ 256 * own.period

-- the busy period of a frame under a demand: the least busy time, where it is within 256 instances
pub record LeastBusy (own : Timed) (demand : ℕ → ℕ) (time : ℕ) : Type 0 where
  pub busy : IsLeast (IsBusy demand) time
  pub short : IsShort own time

-- a time is busy and within 256 instances
pub record IsShortBusy (own : Timed) (demand : ℕ → ℕ) (time : ℕ) : Type 0 where
  pub busy : IsBusy demand time
  pub short : IsShort own time

-- a busy period of the frame at a place, within 256 instances
abbrev pub FrameBusy : List Timed → List ℕ → ℕ → ℕ → Type 0
FrameBusy frames order place = IsShortBusy (own_of frames order place) (demand_of frames order place)

-- the least busy period of the frame at a place
abbrev pub FrameLeastBusy : List Timed → List ℕ → ℕ → ℕ → Type 0
FrameLeastBusy frames order place = LeastBusy (own_of frames order place) (demand_of frames order place)
