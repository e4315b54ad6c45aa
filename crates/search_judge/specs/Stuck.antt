-- Frames that are stuck in lowest-priority-first assignment, and the evidence against each.
use Rattle.std.specs.Prelude.{ℕ, ◌≤◌, List, length, All}
use Rattle.std.specs.List.Sorted.{IsStrictlyIncreasing}
use Rattle.busy_period.specs.declared.timed.Timed.{Timed}
use Rattle.busy_period.specs.Timed.{IsInRange}
use Rattle.response_test.specs.declared.evidence.Evidence.{Evidence}
use Rattle.response_test.specs.Order.{FailSet, others_of}
use Rattle.response_test.specs.Queueing.{IsBit}
use Rattle.response_test.specs.Refuted.{IsEvidenceOfStage}
use Rattle.bandwidth_bound.specs.Failing.{order_below}

-- members of frames, ascending, that are a failing set
pub record AreStuck (frames : List Timed) (bit : ℕ) (members : List ℕ) : Type 0 where
  pub few : length frames ≤ 128
  pub in_range : All IsInRange frames
  pub bit_is : IsBit frames bit
  pub ascending : IsStrictlyIncreasing members
  pub failing : FailSet frames bit members

-- a frame is named with the one evidence against it below the other members and above all remaining frames
abbrev pub HasEvidence : List Timed → ℕ → ℕ → List ℕ → ℕ × Evidence → Type 0
HasEvidence frames bit hyper members entry =
    IsEvidenceOfStage frames (order_below frames members entry.0)
    (length (others_of entry.0 members)) bit hyper entry.1
