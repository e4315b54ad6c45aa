-- A test that passes among harder and further frames passed before.
use Rattle.std.proofs.Common.{ℕ, ◌+◌, ◌≤◌, List, arith}
use Rattle.std.proofs.Math.Nat.{mul-le-mul_left}
use Rattle.busy_period.specs.declared.timed.Timed.{Timed}
use Rattle.busy_period.specs.Timed.{frame_at}
use Rattle.busy_period.specs.Demand.{demand_against}
use Rattle.busy_period.specs.Harder.{IsHarder, Grows}
use Rattle.busy_period.proofs.Growth.{instances-harder, asks-harder, claims-grow}
use Rattle.response_test.specs.Queueing.{queueing_against}
use Rattle.response_test.specs.Passing.{Shown, InstanceShown}
use Rattle.response_test.specs.Frame.{PassesAgainst}
use Rattle.response_test.proofs.Verdicts.{passes_from_shown, shown_from_passes}

-- what is shown of a harder frame under greater demands is shown by the same numbers
shown_before : (own own' : Timed) (demand demand' : ℕ → ℕ) (queueing queueing' : ℕ → ℕ → ℕ) → IsHarder own own'
    → ((time : ℕ) → 1 ≤ time → demand time ≤ demand' time)
    → ((instance start : ℕ) → queueing instance start ≤ queueing' instance start)
    → Shown own' demand' queueing' → Shown own demand queueing
shown_before own own' demand demand' queueing queueing' harder less less' it =
    record {
      busy = it.busy;
      holds = record {
        busy = record {
          some = it.holds.busy.some;
          done = omega (arith, it.holds.busy.done, less it.busy it.holds.busy.some);
        };
        short = omega (arith, it.holds.short, harder.jitter, harder.period);
      };
      each = λ instance inside.
          let one : InstanceShown own' queueing' instance =
          it.each instance (omega (arith, instances-harder own own' it.busy harder)) in
          record {
            start = one.start;
            can_start = omega (arith, one.can_start, less' instance one.start);
            in_time = omega (arith, one.in_time, harder.jitter, harder.ticks, harder.deadline, mul-le-mul_left instance harder.period);
          };
    }

-- a frame that passes after it and those around it got harder passed before
pub passes_before_growth : (frames frames' : List Timed) (own : ℕ) (higher lower higher' lower' : List ℕ) (bit : ℕ)
    → 1 ≤ bit → IsHarder (frame_at frames own) (frame_at frames' own) → Grows frames higher lower frames' higher' lower'
    → PassesAgainst frames' own higher' lower' bit → PassesAgainst frames own higher lower bit
passes_before_growth frames frames' own higher lower higher' lower' bit some harder grows it =
    passes_from_shown _ _ _
    (shown_before (frame_at frames own) (frame_at frames' own)
    (demand_against frames own higher lower) (demand_against frames' own higher' lower')
    (queueing_against frames own higher lower bit) (queueing_against frames' own higher' lower' bit) harder
    (λ time later. omega (
      arith,
      claims-grow frames higher lower frames' higher' lower' time later grows,
      asks-harder (frame_at frames own) (frame_at frames' own) time harder,
    ))
    (λ instance start. omega (
      arith,
      claims-grow frames higher lower frames' higher' lower' (start + bit) (omega arith) grows,
      mul-le-mul_left instance harder.ticks,
    ))
    (shown_from_passes _ _ _ it))
