-- Laws of stages and of their demand.
use Rattle.std.proofs.Common.{◌≡◌, ℕ, ◌+◌, ◌-◌, ◌*◌, ◌<◌, ◌≤◌, List, length, take, drop, get_or, nat_eq, true, ap, Option, Some, None, IfSome, IfNone, arith, add-zero, length-take, length-drop}
use Rattle.std.proofs.lemmas.List.Elements.{All-take, All-drop, All-contains, All-get_or}
use Rattle.std.proofs.lemmas.List.Sums.{sum_by-le-sum_by, sum_by_more}
use Rattle.std.proofs.lemmas.Bool.{eqb-true}
use Rattle.std.proofs.lemmas.Map.Steps.{length-le_from_distinct_below}
use Rattle.std.proofs.lemmas.Map.Views.{Contains-from_any}
use Rattle.std.specs.List.{IsDistinct, list_any}
use Rattle.busy_period.specs.declared.timed.Timed.{Timed}
use Rattle.busy_period.specs.Timed.{IsInRange, none_frame, frame_at}
use Rattle.busy_period.specs.Stage.{AreNamed, IsStage, IsSameSet, own_number, own_of, higher_of, lower_of}
use Rattle.busy_period.specs.Demand.{asks_of, work_of, blocking_of, demand_against, demand_of}
use Rattle.busy_period.specs.Least.{IsLeast}
use Rattle.busy_period.specs.Busy.{IsFit, IsMadeUp, IsBusy, IsShortBusy, LeastBusy}
use Rattle.busy_period.proofs.Instances.{asks-le}
use Rattle.busy_period.proofs.Sums.{sum_by-same_set}

-- an order of a stage is no longer than its frames
pub order_is_few : (frames : List Timed) (order : List ℕ) (place : ℕ) → IsStage frames order place
    → length order ≤ 128
order_is_few frames order place stage =
    let below : (number : ℕ) → list_any (nat_eq number) order ≡ true → number < length frames =
    λ number found.
    All-contains (λ i. i < length frames) order number stage.named
    (Contains-from_any (λ a b. eqb-true a b) number order found) in
    let few : length order ≤ length frames =
    length-le_from_distinct_below order (length frames) stage.distinct below in
    let frames_few : length frames ≤ 128 = stage.few in
    omega arith

-- each frame that is named is in range
pub named_is_in_range : (frames : List Timed) (numbers : List ℕ) (index : ℕ) → AreNamed frames numbers
    → index < length numbers
    → IsInRange (frame_at frames (get_or numbers index 0))
named_is_in_range frames numbers index named inside =
    All-get_or IsInRange frames (get_or numbers index 0) none_frame
    (All-get_or (λ i. i < length frames) numbers index 0 inside named.named) named.in_range

-- and so is the frame under test
pub own_is_in_range : (frames : List Timed) (order : List ℕ) (place : ℕ) → IsStage frames order place
    → IsInRange (own_of frames order place)
own_is_in_range frames order place stage =
    All-get_or IsInRange frames (own_number order place) none_frame
    (All-get_or (λ i. i < length frames) order place 0 stage.inside stage.named) stage.in_range

-- a part of an order names frames
pub front_is_named : (frames : List Timed) (order : List ℕ) (place n : ℕ) → IsStage frames order place
    → n ≤ length order
    → AreNamed frames (take n order)
front_is_named frames order place n stage le =
    record {
      in_range = stage.in_range;
      named = All-take (λ i. i < length frames) n order stage.named;
      few = omega (arith, order_is_few frames order place stage, length-take n order);
    }

pub back_is_named : (frames : List Timed) (order : List ℕ) (place n : ℕ) → IsStage frames order place
    → AreNamed frames (drop n order)
back_is_named frames order place n stage =
    record {
      in_range = stage.in_range;
      named = All-drop (λ i. i < length frames) n order stage.named;
      few = omega (arith, order_is_few frames order place stage, length-drop n order);
    }

-- work never falls in time
pub work-le : (frames : List Timed) (numbers : List ℕ) (earlier later : ℕ) → earlier ≤ later
    → work_of frames numbers earlier ≤ work_of frames numbers later
work-le frames numbers earlier later le =
    sum_by-le-sum_by _ _ numbers (λ i. asks-le (frame_at frames i) earlier later le)

-- the work of a frame and of those above it
pub work-own : (frames : List Timed) (order : List ℕ) (place time : ℕ) → place < length order
    → work_of frames (take (place + 1) order) time
    ≡ work_of frames (higher_of order place) time + asks_of (own_of frames order place) time
work-own frames order place time inside =
    sum_by_more (λ i. asks_of (frame_at frames i) time) order place 0 inside

-- the demand never falls in time
pub demand-le : (frames : List Timed) (own : ℕ) (higher lower : List ℕ) (earlier later : ℕ) → earlier ≤ later
    → demand_against frames own higher lower earlier ≤ demand_against frames own higher lower later
demand-le frames own higher lower earlier later le =
    omega (arith, work-le frames higher earlier later le, asks-le (frame_at frames own) earlier later le)

-- the work of the same frames in another order
pub work-same_set : (frames : List Timed) (numbers numbers' : List ℕ) (time : ℕ)
    → IsDistinct nat_eq numbers → IsDistinct nat_eq numbers' → IsSameSet numbers numbers'
    → work_of frames numbers time ≡ work_of frames numbers' time
work-same_set frames numbers numbers' time =
    sum_by-same_set (λ i. asks_of (frame_at frames i) time) numbers numbers'

-- the demand depends on the higher frames as a set, and on the lower ones by their greatest ticks
pub demand-same_sets : (frames : List Timed) (own : ℕ) (higher lower higher' lower' : List ℕ)
    → IsDistinct nat_eq higher → IsDistinct nat_eq higher' → IsSameSet higher higher'
    → blocking_of frames lower ≡ blocking_of frames lower'
    → (time : ℕ) → demand_against frames own higher lower time ≡ demand_against frames own higher' lower' time
demand-same_sets frames own higher lower higher' lower' distinct distinct' same blocked time =
    omega (arith, blocked, work-same_set frames higher higher' time distinct distinct' same)

-- up to a solution of a climb, base and work stay at most that solution
pub fit-above : (frames : List Timed) (numbers : List ℕ) (base ahead from earlier time : ℕ)
    → IsFit frames numbers base ahead from time → earlier ≤ time
    → base + work_of frames numbers (earlier + ahead) ≤ time
fit-above frames numbers base ahead from earlier time fit le =
    omega (arith, fit.done, work-le frames numbers (earlier + ahead) (time + ahead) (omega arith))

-- a gap that is left at a time is made up for where base and work fit
pub made_up-by-fit : (frames : List Timed) (numbers : List ℕ) (base ahead from now gap time : ℕ)
    → now + gap ≡ base + work_of frames numbers (now + ahead)
    → IsFit frames numbers base ahead from time → now ≤ time
    → IsMadeUp frames numbers (now + ahead) gap (time - now)
made_up-by-fit frames numbers base ahead from now gap time left fit le =
    let same : now + ahead + (time - now) ≡ time + ahead = omega arith in
    let work : work_of frames numbers (now + ahead + (time - now)) ≡ work_of frames numbers (time + ahead) =
    ap (work_of frames numbers) same in
    omega (arith, fit.done)

-- so no fit is before what no gap is made up before
pub fit-after : (frames : List Timed) (numbers : List ℕ) (base ahead from now gap leap time : ℕ)
    → now + gap ≡ base + work_of frames numbers (now + ahead)
    → ((more : ℕ) → IsMadeUp frames numbers (now + ahead) gap more → leap ≤ more)
    → IsFit frames numbers base ahead from time → now ≤ time → now + leap ≤ time
fit-after frames numbers base ahead from now gap leap time left before fit le =
    omega (arith, before (time - now) (made_up-by-fit frames numbers base ahead from now gap time left fit le))

-- a gap takes as long as it is
pub gap-le-made_up : (frames : List Timed) (numbers : List ℕ) (time gap more : ℕ)
    → IsMadeUp frames numbers time gap more → gap ≤ more
gap-le-made_up frames numbers time gap more made =
    omega (arith, work-le frames numbers time (time + more) (omega arith))

-- the least fit from a time that no fit is before
pub least_from_later : (frames : List Timed) (numbers : List ℕ) (base ahead from start time : ℕ)
    → from ≤ start → ((t : ℕ) → IsFit frames numbers base ahead from t → start ≤ t)
    → IsLeast (IsFit frames numbers base ahead start) time
    → IsLeast (IsFit frames numbers base ahead from) time
least_from_later frames numbers base ahead from start time le below least =
    record {
      holds = record { begun = omega (arith, least.holds.begun); done = least.holds.done };
      least = λ t fit. least.least t (record { begun = below t fit; done = fit.done });
    }

-- what fits for a frame and those above it is a busy period of the frame
pub busy_from_fit : (frames : List Timed) (order : List ℕ) (place blocked time : ℕ) → place < length order
    → IsFit frames (take (place + 1) order) blocked 0 1 time
    → IsBusy (λ t. blocked + work_of frames (higher_of order place) t + asks_of (own_of frames order place) t)
    time
busy_from_fit frames order place blocked time inside fit =
    record {
      some = fit.begun;
      done =
          omega (
            arith,
            fit.done,
            work-own frames order place time inside,
            ap (work_of frames (take (place + 1) order)) (add-zero time),
          );
    }

pub fit_from_busy : (frames : List Timed) (order : List ℕ) (place blocked time : ℕ) → place < length order
    → IsBusy (λ t. blocked + work_of frames (higher_of order place) t + asks_of (own_of frames order place) t)
    time
    → IsFit frames (take (place + 1) order) blocked 0 1 time
fit_from_busy frames order place blocked time inside busy =
    record {
      begun = busy.some;
      done =
          omega (
            arith,
            busy.done,
            work-own frames order place time inside,
            ap (work_of frames (take (place + 1) order)) (add-zero time),
          );
    }

-- and the least one the least
pub least_busy_from_fit : (frames : List Timed) (order : List ℕ) (place blocked time : ℕ)
    → place < length order
    → IsLeast (IsFit frames (take (place + 1) order) blocked 0 1) time
    → IsLeast (IsBusy (λ t. blocked + work_of frames (higher_of order place) t + asks_of
    (own_of frames order place) t)) time
least_busy_from_fit frames order place blocked time inside least =
    record {
      holds = busy_from_fit frames order place blocked time inside least.holds;
      least = λ m busy. least.least m (fit_from_busy frames order place blocked m inside busy);
    }

-- what the climb up to the last time within 256 instances finds is the busy period
pub busy_of_climb : (frames : List Timed) (order : List ℕ) (place limit : ℕ) (found : Option ℕ)
    → place < length order
    → limit + (own_of frames order place).jitter ≤ 256 * (own_of frames order place).period
    → IfSome found (IsLeast (IsFit frames (take (place + 1) order)
    (blocking_of frames (lower_of order place)) 0 1))
    → IfSome found (λ time. time ≤ limit)
    → IfSome found (LeastBusy (own_of frames order place) (demand_of frames order place))
busy_of_climb frames order place limit None inside short least within = tt
busy_of_climb frames order place limit (Some time) inside short least within =
    record {
      busy =
          least_busy_from_fit frames order place
          (blocking_of frames (lower_of order place)) time inside least;
      short = omega arith;
    }

-- what it does not find is none
pub none_of_climb : (frames : List Timed) (order : List ℕ) (place limit : ℕ) (found : Option ℕ)
    → place < length order
    → 256 * (own_of frames order place).period ≤ limit + (own_of frames order place).jitter
    → IfNone found ((time : ℕ)
    → IsFit frames (take (place + 1) order) (blocking_of frames (lower_of order place)) 0 1 time
    → limit < time)
    → IfNone found ((time : ℕ)
    → ¬ (IsShortBusy (own_of frames order place) (demand_of frames order place) time))
none_of_climb frames order place limit None inside long none =
    λ time it. omega (
      arith,
      none time
          (fit_from_busy frames order place (blocking_of frames (lower_of order place)) time inside it.busy),
      it.short,
    )
none_of_climb frames order place limit (Some time) inside long none = tt
