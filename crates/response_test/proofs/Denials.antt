-- Evidence that stands denies that the frame passes.
use Rattle.std.proofs.Common.{◌≡◌, ℕ, ◌+◌, ◌*◌, ◌/◌, ◌%◌, ◌<◌, ◌≤◌, inl, inr, List, [], ◌∷◌, length, take, sum_by, All, ap, arith}
use Rattle.std.specs.Int.{div_ceil}
use Rattle.std.proofs.lemmas.Bool.{cases_lt}
use Rattle.std.proofs.lemmas.Grind.{div_ceil_times}
use Rattle.std.proofs.lemmas.List.{get_or_past}
use Rattle.std.proofs.lemmas.List.Elements.{All-get_or}
use Rattle.std.proofs.lemmas.List.Sums.{sum_by-cons}
use Rattle.std.proofs.Math.Nat.{mul-le-mul_left, mul-le-mul_right}
use Rattle.busy_period.specs.declared.timed.Timed.{Timed}
use Rattle.busy_period.specs.Timed.{IsInRange, none_frame, frame_at}
use Rattle.busy_period.specs.Stage.{IsStage, own_number, own_of, higher_of, lower_of}
use Rattle.busy_period.specs.Demand.{asks_of, instances_of, work_of, demand_of}
use Rattle.busy_period.proofs.Stages.{demand-le, own_is_in_range, work-own}
use Rattle.response_test.specs.declared.evidence.Evidence.{Evidence}
use Rattle.response_test.specs.declared.evidence.Evidence.TheVariants.{Over, Long, Late}
use Rattle.response_test.specs.Queueing.{queueing_of}
use Rattle.response_test.specs.Passing.{InstancePasses}
use Rattle.response_test.specs.Frame.{FramePasses}
use Rattle.response_test.specs.Chain.{last_of}
use Rattle.response_test.specs.Refuted.{IsCommon, IsOver, IsLong, IsLate, Refuted, sent_of}
use Rattle.response_test.proofs.Chains.{last-le}
use Rattle.response_test.proofs.Starts.{queueing-le}

-- a number is below a quotient rounded up, where it is by the product
pub inside_quotient : (a y q : ℕ) → 1 ≤ y → q * y < a → q < div_ceil a y
inside_quotient a y q some below =
    elim (cases_lt q (div_ceil a y)) [
      | inl inside ↦ inside
      | inr outside ↦
          let up : a ≤ div_ceil a y * y = (div_ceil_times a y some).0 in
          absurd (omega (arith, mul-le-mul_right y outside))
    ]

-- sums compare as their terms, each times a number
sum_by-times-le : (f g : ℕ → ℕ) (a b : ℕ) (xs : List ℕ) → ((x : ℕ) → f x * a ≤ g x * b)
    → sum_by f xs * a ≤ sum_by g xs * b
sum_by-times-le f g a b [] le = omega arith
sum_by-times-le f g a b (x ∷ xs) le =
    omega (
      arith,
      le x,
      sum_by-times-le f g a b xs le,
      ap (λ n. n * a) (sum_by-cons f x xs),
      ap (λ n. n * b) (sum_by-cons g x xs),
    )

-- a frame asks for at least its share of a common period
asks-share : (frame : Timed) (hyper time : ℕ) → 1 ≤ frame.period → hyper % frame.period ≡ 0
    → frame.ticks * (hyper / frame.period) * time ≤ asks_of frame time * hyper
asks-share frame hyper time some multiple =
    let times : ℕ = hyper / frame.period in
    let whole : hyper ≡ times * frame.period = omega (arith, multiple) in
    let up : time + frame.jitter ≤ instances_of frame time * frame.period = (div_ceil_times (time + frame.jitter) frame.period some).0 in
    let within : time ≤ instances_of frame time * frame.period = omega arith in
    omega (
      arith,
      mul-le-mul_left (frame.ticks * times) within,
      ap (λ n. instances_of frame time * frame.ticks * n) whole,
    )

-- the frames of some numbers ask for at least their share of a common period
work-share : (frames : List Timed) (numbers : List ℕ) (hyper time : ℕ) → All IsInRange frames → IsCommon frames hyper
    → sent_of frames numbers hyper * time ≤ work_of frames numbers time * hyper
work-share frames numbers hyper time range common =
    sum_by-times-le (λ i. (frame_at frames i).ticks * (hyper / (frame_at frames i).period)) (λ i. asks_of (frame_at frames i) time) time hyper numbers
    (λ i. elim (cases_lt i (length frames)) [
      | inl inside ↦
          let it : IsInRange (frame_at frames i) = All-get_or IsInRange frames i none_frame inside range in
          asks-share (frame_at frames i) hyper time it.some_period
          (All-get_or (λ frame. hyper % frame.period ≡ 0) frames i none_frame inside common.multiple)
      | inr outside ↦
          let none : (frame_at frames i).ticks ≡ 0 = ap (λ (frame : Timed). frame.ticks) (get_or_past frames i none_frame outside) in
          omega (arith, ap (λ n. n * (hyper / (frame_at frames i).period) * time) none)
    ])

-- more than the whole bus leaves no busy period at all
pub over_denies : (frames : List Timed) (order : List ℕ) (place bit hyper : ℕ) → IsStage frames order place
    → IsCommon frames hyper
    → IsOver frames order place hyper → ¬ (FramePasses frames order place bit)
over_denies frames order place bit hyper stage common over passes =
    let time : ℕ = passes.busy in
    let level : List ℕ = take (place + 1) order in
    let some : 1 ≤ time = passes.least.busy.holds.some in
    let done : demand_of frames order place time ≤ time = passes.least.busy.holds.done in
    let own : work_of frames level time ≡ work_of frames (higher_of order place) time + asks_of (own_of frames order place) time =
    work-own frames order place time stage.inside in
    let fits : work_of frames level time ≤ time = omega arith in
    let share : sent_of frames level hyper * time ≤ work_of frames level time * hyper =
    work-share frames level hyper time stage.in_range common in
    let more : hyper + 1 ≤ sent_of frames level hyper = omega (arith, over) in
    omega (arith, mul-le-mul_right time more, mul-le-mul_right hyper fits)

-- a chain past 256 instances leaves no busy period within them
pub long_denies : (frames : List Timed) (order : List ℕ) (place bit : ℕ) (chain : List ℕ)
    → IsLong frames order place chain → ¬ (FramePasses frames order place bit)
long_denies frames order place bit chain long passes =
    let last : last_of chain ≤ passes.busy =
    last-le (demand_of frames order place) 1 chain passes.busy
    (demand-le frames (own_number order place) (higher_of order place) (lower_of order place))
    long.is_chain passes.least.busy.holds.some passes.least.busy.holds.done in
    omega (arith, long.past, passes.least.short)

-- a chain to an instance and one past its latest start leave it late
pub late_denies : (frames : List Timed) (order : List ℕ) (place bit instance : ℕ) (busy queue : List ℕ)
    → IsStage frames order place
    → IsLate frames order place bit instance busy queue → ¬ (FramePasses frames order place bit)
late_denies frames order place bit instance busy queue stage late passes =
    let own : Timed = own_of frames order place in
    let last : last_of busy ≤ passes.busy =
    last-le (demand_of frames order place) 1 busy passes.busy
    (demand-le frames (own_number order place) (higher_of order place) (lower_of order place))
    late.busy_chain passes.least.busy.holds.some passes.least.busy.holds.done in
    let inside : instance < instances_of own passes.busy =
    inside_quotient (passes.busy + own.jitter) own.period instance (own_is_in_range frames order place stage).some_period
    (omega (arith, late.inside)) in
    let one : InstancePasses own (queueing_of frames order place bit) instance = passes.each instance inside in
    let start : last_of queue ≤ one.start =
    last-le (queueing_of frames order place bit instance) 0 queue one.start
    (queueing-le frames (own_number order place) (higher_of order place) (lower_of order place) bit instance)
    late.queue_chain (omega arith) one.least.holds in
    omega (arith, late.late, one.in_time)

-- evidence that stands denies that the frame passes
pub evidence_denies : (frames : List Timed) (order : List ℕ) (place bit hyper : ℕ) (evidence : Evidence)
    → IsStage frames order place → IsCommon frames hyper
    → Refuted frames order place bit hyper evidence → ¬ (FramePasses frames order place bit)
evidence_denies frames order place bit hyper Over stage common it = over_denies frames order place bit hyper stage common it
evidence_denies frames order place bit hyper (Long chain) stage common it = long_denies frames order place bit chain it
evidence_denies frames order place bit hyper (Late instance busy queue) stage common it =
    late_denies frames order place bit instance busy queue stage it
