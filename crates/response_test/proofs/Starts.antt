-- Laws of the demand before an instance, and of the times at which instances start.
use Rattle.std.proofs.Common.{◌≡◌, ℕ, ◌+◌, ◌-◌, ◌*◌, ◌<◌, ◌≤◌, inl, inr, List, length, nat_eq, arith}
use Rattle.std.specs.List.{IsDistinct}
use Rattle.std.proofs.lemmas.Bool.{cases_lt}
use Rattle.std.proofs.lemmas.List.Elements.{All-get_or}
use Rattle.std.proofs.Math.Nat.{mul-le-mul_right}
use Rattle.busy_period.specs.declared.timed.Timed.{Timed}
use Rattle.busy_period.specs.Timed.{IsInRange, none_frame, frame_at}
use Rattle.busy_period.specs.Stage.{IsStage, IsSameSet, own_number, own_of, higher_of}
use Rattle.busy_period.specs.Demand.{instances_of, asks_of, work_of, blocking_of, demand_of}
use Rattle.busy_period.specs.Busy.{IsBusy, LeastBusy}
use Rattle.busy_period.proofs.Instances.{below_quotient, quotient-le}
use Rattle.busy_period.proofs.Stages.{work-le, work-same_set, own_is_in_range}
use Rattle.response_test.specs.Queueing.{IsBit, queueing_against, queueing_of}
use Rattle.response_test.specs.Passing.{CanStart}

-- the demand before an instance never falls in time
pub queueing-le : (frames : List Timed) (own : ℕ) (higher lower : List ℕ) (bit instance earlier later : ℕ) → earlier ≤ later
    → queueing_against frames own higher lower bit instance earlier ≤ queueing_against frames own higher lower bit instance later
queueing-le frames own higher lower bit instance earlier later le =
    omega (arith, work-le frames higher (earlier + bit) (later + bit) (omega arith))

-- it depends on the higher frames as a set, and on the lower ones by their greatest ticks
pub queueing-same_sets : (frames : List Timed) (own : ℕ) (higher lower higher' lower' : List ℕ)
    → IsDistinct nat_eq higher → IsDistinct nat_eq higher' → IsSameSet higher higher'
    → blocking_of frames lower ≡ blocking_of frames lower'
    → (bit instance start : ℕ)
    → queueing_against frames own higher lower bit instance start ≡ queueing_against frames own higher' lower' bit instance start
queueing-same_sets frames own higher lower higher' lower' distinct distinct' same blocked bit instance start =
    omega (arith, blocked, work-same_set frames higher higher' (start + bit) distinct distinct' same)

-- the frame under test is no shorter than a bit
pub bit-le-own : (frames : List Timed) (order : List ℕ) (place bit : ℕ) → IsStage frames order place
    → IsBit frames bit
    → bit ≤ (own_of frames order place).ticks
bit-le-own frames order place bit stage is_bit =
    All-get_or (λ frame. bit ≤ frame.ticks) frames (own_number order place) none_frame
    (All-get_or (λ i. i < length frames) order place 0 stage.inside stage.named) is_bit.within

-- each instance in a busy period can start the time of one sending before its end
pub starts_before_end : (frames : List Timed) (own : ℕ) (higher : List ℕ) (blocked bit instance busy : ℕ)
    → bit ≤ (frame_at frames own).ticks
    → IsBusy (λ t. blocked + work_of frames higher t + asks_of (frame_at frames own) t) busy
    → instance < instances_of (frame_at frames own) busy
    → ((frame_at frames own).ticks ≤ busy) × CanStart
    (λ k start. blocked + k * (frame_at frames own).ticks + work_of frames higher (start + bit)) instance
    (busy - (frame_at frames own).ticks)
starts_before_end frames number higher blocked bit instance busy bit_le it inside =
    let own : Timed = frame_at frames number in
    let sent : (instance + 1) * own.ticks ≤ asks_of own busy = mul-le-mul_right own.ticks (omega arith) in
    let fits : blocked + work_of frames higher busy + asks_of own busy ≤ busy = it.done in
    let whole : own.ticks ≤ busy = omega arith in
    let less : work_of frames higher (busy - own.ticks + bit) ≤ work_of frames higher busy =
    work-le frames higher (busy - own.ticks + bit) busy (omega arith) in
    (whole, omega arith)

-- no instance in the busy period starts before it arrives
pub starts_after_arrival : (frames : List Timed) (order : List ℕ) (place bit instance busy start : ℕ)
    → IsStage frames order place
    → LeastBusy (own_of frames order place) (demand_of frames order place) busy
    → instance < instances_of (own_of frames order place) busy
    → CanStart (queueing_of frames order place bit) instance start
    → instance * (own_of frames order place).period ≤ (own_of frames order place).jitter + start
starts_after_arrival frames order place bit instance busy start stage least inside can_start =
    let own : Timed = own_of frames order place in
    let range : IsInRange own = own_is_in_range frames order place stage in
    let some_period : 1 ≤ own.period = range.some_period in
    elim (cases_lt (own.jitter + start) (instance * own.period)) [
      | inr after ↦ after
      | inl early ↦
          let some : 1 ≤ instance = elim (cases_lt 0 instance) [
            | inl some ↦ some
            | inr none ↦ absurd (omega (arith, mul-le-mul_right own.period none))
          ] in
          let one : 1 * own.ticks ≤ instance * own.ticks = mul-le-mul_right own.ticks some in
          let few : instances_of own start ≤ instance = quotient-le (start + own.jitter) own.period instance some_period (omega arith) in
          let asked : asks_of own start ≤ instance * own.ticks = mul-le-mul_right own.ticks few in
          let higher : work_of frames (higher_of order place) start ≤ work_of frames (higher_of order place) (start + bit) =
          work-le frames (higher_of order place) start (start + bit) (omega arith) in
          let busy_start : IsBusy (demand_of frames order place) start =
          record { some = omega (arith, range.some_ticks); done = omega arith } in
          let later : busy ≤ start = least.busy.least start busy_start in
          let before : instance * own.period < busy + own.jitter = below_quotient (busy + own.jitter) own.period instance some_period inside in
          omega arith
    ]
