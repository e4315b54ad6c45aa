-- Passing and being shown to pass are one.
use Rattle.std.proofs.Common.{◌≡◌, ℕ, ◌+◌, ◌<◌, ◌≤◌, ◌⊎◌, inl, inr, List, length, get_or, nat_eq, Option, Some, None, IsSome, IfNone, refl, subst, arith}
use Rattle.std.specs.List.{IsDistinct}
use Rattle.busy_period.specs.declared.timed.Timed.{Timed}
use Rattle.busy_period.specs.Stage.{IsSameSet}
use Rattle.busy_period.specs.Demand.{instances_of, blocking_of}
use Rattle.busy_period.specs.Least.{IsLeast}
use Rattle.busy_period.specs.Busy.{IsBusy, LeastBusy}
use Rattle.busy_period.proofs.Instances.{div_ceil-le}
use Rattle.busy_period.proofs.Least.{least_exists, least_unique, le_decided}
use Rattle.busy_period.proofs.Stages.{demand-same_sets}
use Rattle.response_test.specs.Passing.{CanStart, IsInTime, InstancePasses, InstanceShown, Passes, Shown}
use Rattle.response_test.specs.Frame.{PassesAgainst, FramePasses, IsShown}
use Rattle.response_test.proofs.Starts.{queueing-same_sets}

-- whether a time is busy
busy_decided : (demand : ℕ → ℕ) (time : ℕ) → IsBusy demand time ⊎ (¬ (IsBusy demand time))
busy_decided demand time =
    elim (le_decided 1 time) [
      | inr none ↦ inr (λ it. none it.some)
      | inl some ↦ elim (le_decided (demand time) time) [
        | inr late ↦ inr (λ it. late it.done)
        | inl done ↦ inl (record { some = some; done = done })
      ]
    ]

-- an instance that is shown to pass passes: the least start is earlier
pub instance_passes : (own : Timed) (queueing : ℕ → ℕ → ℕ) (instance : ℕ) → InstanceShown own queueing instance
    → InstancePasses own queueing instance
instance_passes own queueing instance it =
    let found : (k : ℕ) × IsLeast (CanStart queueing instance) k =
    least_exists (CanStart queueing instance) (λ n. le_decided (queueing instance n) n) it.start it.can_start in
    record {
      start = found.0;
      least = found.1;
      in_time = omega (arith, found.1.least it.start it.can_start, it.in_time);
    }

-- what is shown to pass passes: the least busy period is shorter, so it has no more instances
pub passes_from_shown : (own : Timed) (demand : ℕ → ℕ) (queueing : ℕ → ℕ → ℕ) → Shown own demand queueing
    → Passes own demand queueing
passes_from_shown own demand queueing it =
    let found : (k : ℕ) × IsLeast (IsBusy demand) k = least_exists (IsBusy demand) (busy_decided demand) it.busy it.holds.busy in
    let le : found.0 ≤ it.busy = found.1.least it.busy it.holds.busy in
    let fewer : instances_of own found.0 ≤ instances_of own it.busy = div_ceil-le (found.0 + own.jitter) (it.busy + own.jitter) own.period (omega arith) in
    record {
      busy = found.0;
      least = record { busy = found.1; short = omega (arith, it.holds.short) };
      each = λ instance inside. instance_passes own queueing instance (it.each instance (omega arith));
    }

-- the least busy period and the least starts show it
pub shown_from_passes : (own : Timed) (demand : ℕ → ℕ) (queueing : ℕ → ℕ → ℕ) → Passes own demand queueing
    → Shown own demand queueing
shown_from_passes own demand queueing it =
    record {
      busy = it.busy;
      holds = record { busy = it.least.busy.holds; short = it.least.short };
      each = λ instance inside.
          let one : InstancePasses own queueing instance = it.each instance inside in
          record { start = one.start; can_start = one.least.holds; in_time = one.in_time };
    }

-- demands that agree at each time show the same
pub shown_along : (own : Timed) (demand demand' : ℕ → ℕ) (queueing queueing' : ℕ → ℕ → ℕ)
    → ((time : ℕ) → demand time ≡ demand' time)
    → ((instance start : ℕ) → queueing instance start ≡ queueing' instance start)
    → Shown own demand queueing → Shown own demand' queueing'
shown_along own demand demand' queueing queueing' same same' it =
    record {
      busy = it.busy;
      holds = record {
        busy = record { some = it.holds.busy.some; done = omega (arith, it.holds.busy.done, same it.busy) };
        short = it.holds.short;
      };
      each = λ instance inside.
          let one : InstanceShown own queueing instance = it.each instance inside in
          record { start = one.start; can_start = omega (arith, one.can_start, same' instance one.start); in_time = one.in_time };
    }

-- a frame passes as well against the same higher frames in another order, and lower ones that block as long
pub passes-same_sets : (frames : List Timed) (own : ℕ) (higher lower higher' lower' : List ℕ)
    → IsDistinct nat_eq higher → IsDistinct nat_eq higher' → IsSameSet higher higher'
    → blocking_of frames lower ≡ blocking_of frames lower'
    → (bit : ℕ) → PassesAgainst frames own higher lower bit → PassesAgainst frames own higher' lower' bit
passes-same_sets frames own higher lower higher' lower' distinct distinct' same blocked bit it =
    passes_from_shown _ _ _
    (shown_along _ _ _ _ _ (demand-same_sets frames own higher lower higher' lower' distinct distinct' same blocked)
    (queueing-same_sets frames own higher lower higher' lower' distinct distinct' same blocked bit) (shown_from_passes _ _ _ it))

-- the same set the other way round
pub same_set_back : (xs ys : List ℕ) → IsSameSet xs ys → IsSameSet ys xs
same_set_back xs ys same = record { there = same.back; back = same.there }

-- given numbers that show it imply that the frame passes
pub passes_from_numbers : (frames : List Timed) (order : List ℕ) (place bit busy : ℕ) (starts : List ℕ)
    → IsShown frames order place bit busy starts → FramePasses frames order place bit
passes_from_numbers frames order place bit busy starts it =
    passes_from_shown _ _ _ (record {
      busy = busy;
      holds = it.holds;
      each = λ instance inside.
          let inside' : instance < length starts = omega (arith, it.count) in
          record { start = get_or starts instance 0; can_start = it.can_start instance inside'; in_time = it.in_time instance inside' };
    })

-- where the frame passes, the least start of each instance in its busy period is in time
pub in_time_from_passes : (own : Timed) (demand : ℕ → ℕ) (queueing : ℕ → ℕ → ℕ) (busy instance start : ℕ)
    → Passes own demand queueing
    → LeastBusy own demand busy → instance < instances_of own busy → IsLeast (CanStart queueing instance) start
    → IsInTime own instance start
in_time_from_passes own demand queueing busy instance start it least inside first =
    let same : busy ≡ it.busy = least_unique (IsBusy demand) busy it.busy least.busy it.least.busy in
    let P : ℕ → Type 0 = λ time. instance < instances_of own time in
    let one : InstancePasses own queueing instance = it.each instance (subst P same inside) in
    omega (arith, one.in_time, first.least one.start one.least.holds)

-- a climb that has a solution up to its limit finds one
pub some_of_climb : (P : ℕ → Type 0) (limit start : ℕ) (found : Option ℕ) → P start → start ≤ limit
    → IfNone found ((time : ℕ) → P time → limit < time) → IsSome found
some_of_climb P limit start None it within none = absurd (omega (arith, none start it))
some_of_climb P limit start (Some time) it within none = refl
