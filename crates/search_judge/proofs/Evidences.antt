-- The one evidence of a stage refutes it.
use Rattle.std.proofs.Common.{◌≡◌, ℕ, zero, suc, ◌+◌, ◌-◌, ◌*◌, ◌<◌, ◌≤◌, ◌^◌, inl, inr, List, length, get_or, ap, arith}
use Rattle.std.proofs.Math.Nat.{mul-le-mul_right}
use Rattle.std.proofs.lemmas.Bool.{cases_lt}
use Rattle.busy_period.specs.declared.timed.Timed.{Timed}
use Rattle.busy_period.specs.Timed.{IsInRange}
use Rattle.busy_period.specs.Stage.{IsStage, own_number, own_of, higher_of, lower_of}
use Rattle.busy_period.specs.Demand.{demand_of}
use Rattle.busy_period.proofs.Instances.{below_quotient}
use Rattle.busy_period.proofs.Stages.{demand-le, own_is_in_range}
use Rattle.response_test.specs.declared.evidence.Evidence.{Evidence}
use Rattle.response_test.specs.declared.evidence.Evidence.TheVariants.{Over, Long, Late}
use Rattle.response_test.specs.Chain.{IsChain, IsClimb}
use Rattle.response_test.specs.Frame.{HasInstance}
use Rattle.response_test.specs.Queueing.{IsBit, queueing_of}
use Rattle.response_test.specs.Refuted.{IsEvidenceOfStage, IsLate, IsLateOf, Refuted, first_late, first_with}
use Rattle.response_test.proofs.Climbs.{long_from_climb}
use Rattle.response_test.proofs.Level.{starts_before_end_at}
use Rattle.response_test.proofs.Starts.{queueing-le}

-- a climb below a solution is a chain
climb_chain : (demand : ℕ → ℕ) (first until : ℕ) (times : List ℕ) (time : ℕ)
    → ((earlier later : ℕ) → earlier ≤ later → demand earlier ≤ demand later)
    → first ≤ time → demand time ≤ time → time ≤ 2 ^ 45
    → IsClimb demand first until times → IsChain demand first times
climb_chain demand first until times time rises from done low climb = record {
  some = climb.some;
  begins = climb.begins;
  climbs = λ k inside. omega (arith, climb.climbs k inside);
  low = λ k inside. omega (arith, below k inside);
}
  where
    below : (k : ℕ) → k < length times → get_or times k 0 ≤ time
    below zero inside = omega (arith, climb.begins)
    below (suc k) inside =
        let same : get_or times (suc k) 0 ≡ get_or times (k + 1) 0 = ap (λ n. get_or times n 0) (omega arith) in
        omega (arith, climb.climbs k (omega arith), rises (get_or times k 0) time (below k (omega arith)))

-- the number of an instance within 256 of them is low
low_instance : (time period instance : ℕ) → instance * period < time → time ≤ 256 * period → instance ≤ 256
low_instance time period instance inside short = elim (cases_lt 256 instance) [
  | inl more ↦
      let after : 256 * period ≤ instance * period = mul-le-mul_right period (omega arith) in
      absurd (omega arith)
  | inr low ↦ low
]

-- evidence of an instance that doesn't pass refutes the frame
late_refutes : (frames : List Timed) (order : List ℕ) (place bit hyper instance : ℕ) (busy queue : List ℕ)
    → IsStage frames order place → IsBit frames bit → IsLateOf frames order place bit hyper instance busy queue
    → IsLate frames order place bit instance busy queue
late_refutes frames order place bit hyper instance busy queue stage is_bit late =
    let own : Timed = own_of frames order place in
    let range : IsInRange own = own_is_in_range frames order place stage in
    let has : HasInstance frames order place instance = late.first.inside in
    let holds = has.least.busy.holds in
    let inside : instance * own.period < has.busy + own.jitter =
    below_quotient (has.busy + own.jitter) own.period instance range.some_period has.inside in
    let start =
    starts_before_end_at frames order place bit instance has.busy stage is_bit holds has.inside in
    record {
      low = omega (arith, low_instance (has.busy + own.jitter) own.period instance inside has.least.short);
      busy_chain =
          climb_chain (demand_of frames order place) 1 (first_with frames order place instance) busy has.busy
          (demand-le frames (own_number order place) (higher_of order place) (lower_of order place))
          holds.some holds.done (omega (arith, has.least.short, range.period)) late.busy_climb;
      inside = omega (arith, late.busy_climb.reaches);
      queue_chain =
          climb_chain (queueing_of frames order place bit instance) 0 (first_late frames order place instance)
          queue (has.busy - own.ticks)
          (queueing-le frames (own_number order place) (higher_of order place) (lower_of order place) bit
          instance)
          (omega arith) start.1 (omega (arith, has.least.short, range.period)) late.queue_climb;
      late = omega (arith, late.queue_climb.reaches);
    }

-- evidence of a stage refutes its frame
pub evidence_refutes : (frames : List Timed) (order : List ℕ) (place bit hyper : ℕ) (evidence : Evidence)
    → IsStage frames order place → IsBit frames bit → IsEvidenceOfStage frames order place bit hyper evidence
    → Refuted frames order place bit hyper evidence
evidence_refutes frames order place bit hyper Over stage is_bit found = found
evidence_refutes frames order place bit hyper (Long chain) stage is_bit found =
    long_from_climb frames order place chain stage found.climb
evidence_refutes frames order place bit hyper (Late instance busy queue) stage is_bit found =
    late_refutes frames order place bit hyper instance busy queue stage is_bit found
