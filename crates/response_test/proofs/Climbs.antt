-- The climbs that make evidence are chains, and reach as far as it needs.
use Rattle.std.proofs.Common.{◌≡◌, ℕ, ◌+◌, ◌-◌, ◌<◌, ◌≤◌, ◌^◌, zero, suc, inl, inr, List, length, get_or, min, subst, ap, arith}
use Rattle.std.proofs.lemmas.Bool.{cases_lt}
use Rattle.busy_period.specs.declared.timed.Timed.{Timed}
use Rattle.busy_period.specs.Timed.{IsInRange}
use Rattle.busy_period.specs.Stage.{IsStage, own_number, own_of, higher_of, lower_of}
use Rattle.busy_period.specs.Demand.{instances_of, demand_of}
use Rattle.busy_period.specs.Busy.{IsBusy}
use Rattle.busy_period.proofs.Instances.{below_quotient}
use Rattle.busy_period.proofs.Least.{least_unique}
use Rattle.busy_period.proofs.Stages.{demand-le, own_is_in_range}
use Rattle.response_test.specs.Queueing.{IsBit, queueing_of}
use Rattle.response_test.specs.Passing.{CanStart}
use Rattle.response_test.specs.Frame.{FramePasses, HasInstance}
use Rattle.response_test.specs.Chain.{IsChain, IsClimb}
use Rattle.response_test.specs.Refuted.{IsFirstLate, IsLong, IsLongClimb, first_long, first_with, first_late}
use Rattle.response_test.proofs.Chains.{chain-le}
use Rattle.response_test.proofs.Starts.{queueing-le}
use Rattle.response_test.proofs.Level.{starts_before_end_at}
use Rattle.response_test.proofs.Verdicts.{instance_passes}

-- a climb no higher than 2^45 is a chain
pub chain_from_climb : (demand : ℕ → ℕ) (first until cap : ℕ) (times : List ℕ) → first ≤ 2 ^ 45 → cap ≤ 2 ^ 45
    → IsClimb (λ time. min (demand time) cap) first until times → IsChain demand first times
chain_from_climb demand first until cap times low low' climb =
    record {
      some = climb.some;
      begins = climb.begins;
      climbs = λ k inside. omega (arith, climb.climbs k inside);
      low = low_of;
    }
  where
    low_of : (k : ℕ) → k < length times → get_or times k 0 ≤ 2 ^ 45
    low_of zero inside = omega (arith, climb.begins)
    low_of (suc k) inside =
        let same : get_or times (suc k) 0 ≡ get_or times (k + 1) 0 = ap (λ n. get_or times n 0) (omega arith) in
        omega (arith, climb.climbs k (omega arith))

-- below a solution no time is cut off
pub climb_uncut : (demand : ℕ → ℕ) (first until cap : ℕ) (times : List ℕ) (time : ℕ)
    → ((earlier later : ℕ) → earlier ≤ later → demand earlier ≤ demand later)
    → cap ≤ 2 ^ 45 → first ≤ time → demand time ≤ time → time ≤ cap
    → IsClimb (λ time. min (demand time) cap) first until times → IsClimb demand first until times
climb_uncut demand first until cap times time rises low from done within climb =
    record {
      some = climb.some;
      begins = climb.begins;
      climbs = λ k inside.
          let chain : IsChain demand first times = chain_from_climb demand first until cap times (omega arith) low climb in
          let earlier : get_or times k 0 ≤ time = chain-le demand first times time rises chain from done k (omega arith) in
          omega (arith, climb.climbs k inside, rises (get_or times k 0) time earlier);
      before = climb.before;
      reaches = climb.reaches;
    }

-- the climb past 256 instances is evidence of them
pub long_from_climb : (frames : List Timed) (order : List ℕ) (place : ℕ) (chain : List ℕ) → IsStage frames order place
    → IsLongClimb frames order place chain → IsLong frames order place chain
long_from_climb frames order place chain stage climb =
    let range : IsInRange (own_of frames order place) = own_is_in_range frames order place stage in
    record {
      is_chain =
          chain_from_climb (demand_of frames order place) 1 (first_long frames order place) (first_long frames order place) chain
          (omega arith) (omega (arith, range.period)) climb;
      past = omega (arith, climb.reaches);
    }

-- an instance of a busy period is in each busy one
pub busy_with_instance : (frames : List Timed) (order : List ℕ) (place instance time : ℕ) → IsStage frames order place
    → HasInstance frames order place instance
    → IsBusy (demand_of frames order place) time → first_with frames order place instance ≤ time
busy_with_instance frames order place instance time stage has busy =
    let own : Timed = own_of frames order place in
    omega (
      arith,
      below_quotient (has.busy + own.jitter) own.period instance (own_is_in_range frames order place stage).some_period has.inside,
      has.least.busy.least time busy,
    )

-- an instance that doesn't pass starts too late
pub late_start : (frames : List Timed) (order : List ℕ) (place bit instance time : ℕ)
    → IsFirstLate frames order place bit instance
    → CanStart (queueing_of frames order place bit) instance time → first_late frames order place instance ≤ time
late_start frames order place bit instance time late can_start =
    elim (cases_lt time (first_late frames order place instance)) [
      | inr after ↦ after
      | inl early ↦
          absurd (late.late (instance_passes (own_of frames order place) (queueing_of frames order place bit) instance
          (record { start = time; can_start = can_start; in_time = omega arith })))
    ]

-- so the frame doesn't pass
pub first_late_denies : (frames : List Timed) (order : List ℕ) (place bit instance : ℕ)
    → IsFirstLate frames order place bit instance
    → ¬ (FramePasses frames order place bit)
first_late_denies frames order place bit instance late passes =
    let own : Timed = own_of frames order place in
    let has : HasInstance frames order place instance = late.inside in
    let same : has.busy ≡ passes.busy =
    least_unique (IsBusy (demand_of frames order place)) has.busy passes.busy has.least.busy passes.least.busy in
    let Inside : ℕ → Type 0 = λ time. instance < instances_of own time in
    late.late (passes.each instance (subst Inside same has.inside))

-- the climb to an instance in the busy period is cut off nowhere
pub busy_climb_uncut : (frames : List Timed) (order : List ℕ) (place instance until : ℕ) (times : List ℕ)
    → IsStage frames order place
    → HasInstance frames order place instance
    → IsClimb (λ time. min (demand_of frames order place time) (2 ^ 45)) 1 until times
    → IsClimb (demand_of frames order place) 1 until times
busy_climb_uncut frames order place instance until times stage has climb =
    let range : IsInRange (own_of frames order place) = own_is_in_range frames order place stage in
    climb_uncut (demand_of frames order place) 1 until (2 ^ 45) times has.busy
    (demand-le frames (own_number order place) (higher_of order place) (lower_of order place))
    (omega arith) has.least.busy.holds.some has.least.busy.holds.done (omega (arith, has.least.short, range.period)) climb

-- and so is the climb to the latest start
pub queue_climb_uncut : (frames : List Timed) (order : List ℕ) (place bit instance until : ℕ) (times : List ℕ)
    → IsStage frames order place → IsBit frames bit
    → HasInstance frames order place instance
    → IsClimb (λ time. min (queueing_of frames order place bit instance time) (2 ^ 45)) 0 until times
    → IsClimb (queueing_of frames order place bit instance) 0 until times
queue_climb_uncut frames order place bit instance until times stage is_bit has climb =
    let range : IsInRange (own_of frames order place) = own_is_in_range frames order place stage in
    let start = starts_before_end_at frames order place bit instance has.busy stage is_bit has.least.busy.holds has.inside in
    climb_uncut (queueing_of frames order place bit instance) 0 until (2 ^ 45) times (has.busy - (own_of frames order place).ticks)
    (queueing-le frames (own_number order place) (higher_of order place) (lower_of order place) bit instance)
    (omega arith) (omega arith) start.1 (omega (arith, has.least.short, range.period)) climb
