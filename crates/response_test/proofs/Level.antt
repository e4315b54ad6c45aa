-- The written test at a level: the frame under test is the last of it, and the busy period is the level's.
use Rattle.std.proofs.Common.{◌≡◌, ℕ, ◌+◌, ◌-◌, ◌*◌, ◌<◌, ◌≤◌, ◌↔◌, Bool, IsTrue, List, length, take, get_or, ap, subst, sym, ◌∙◌, arith, length-take}
use Rattle.std.proofs.lemmas.List.{take_all, take-take, get_or-take}
use Rattle.busy_period.specs.declared.timed.Timed.{Timed}
use Rattle.busy_period.specs.Timed.{frame_at}
use Rattle.busy_period.specs.Stage.{IsStage, own_number, own_of, higher_of, lower_of}
use Rattle.busy_period.specs.Demand.{instances_of, asks_of, work_of, blocking_of, demand_of}
use Rattle.busy_period.specs.Least.{IsLeast}
use Rattle.busy_period.specs.Busy.{IsFit, IsBusy}
use Rattle.busy_period.proofs.Least.{least_unique}
use Rattle.busy_period.proofs.Stages.{least_busy_from_fit}
use Rattle.response_test.specs.Queueing.{IsBit, queueing_of}
use Rattle.response_test.specs.Passing.{CanStart, InstancePasses, Passes}
use Rattle.response_test.specs.Frame.{PassesBlocked, FramePasses}
use Rattle.response_test.proofs.Starts.{bit-le-own, starts_before_end}
use Rattle.response_test.proofs.Verdicts.{passes_from_shown}

-- each instance of the frame at a place can start the time of one sending before the end of its busy period
pub starts_before_end_at : (frames : List Timed) (order : List ℕ) (place bit instance busy : ℕ)
    → IsStage frames order place → IsBit frames bit
    → IsBusy (demand_of frames order place) busy → instance < instances_of (own_of frames order place) busy
    → ((own_of frames order place).ticks ≤ busy)
    × CanStart (queueing_of frames order place bit) instance (busy - (own_of frames order place).ticks)
starts_before_end_at frames order place bit instance busy stage is_bit =
    starts_before_end frames (own_number order place) (higher_of order place) (blocking_of frames (lower_of order place)) bit
    instance busy (bit-le-own frames order place bit stage is_bit)

-- the busy period of a level is that of its last frame
pub busy_of_last : (frames : List Timed) (level : List ℕ) (blocked busy : ℕ) → 0 < length level
    → IsLeast (IsFit frames level blocked 0 1) busy
    → IsLeast (IsBusy (λ t. blocked + work_of frames (higher_of level (length level - 1)) t
    + asks_of (own_of frames level (length level - 1)) t)) busy
busy_of_last frames level blocked busy some least =
    let whole : take (length level - 1 + 1) level ≡ level = take_all (length level - 1 + 1) level (omega arith) in
    let P : List ℕ → Type 0 = λ numbers. IsLeast (IsFit frames numbers blocked 0 1) busy in
    least_busy_from_fit frames level (length level - 1) blocked busy (omega arith) (subst P (sym whole) least)

-- where the frame passes, the busy period is within 256 instances
pub short_if_passes : (own : Timed) (demand : ℕ → ℕ) (queueing : ℕ → ℕ → ℕ) (busy : ℕ) → IsLeast (IsBusy demand) busy
    → Passes own demand queueing → busy + own.jitter ≤ 256 * own.period
short_if_passes own demand queueing busy least it =
    omega (arith, least_unique (IsBusy demand) busy it.busy least it.least.busy, it.least.short)

-- and each instance in it passes
pub each_if_passes : (own : Timed) (demand : ℕ → ℕ) (queueing : ℕ → ℕ → ℕ) (busy instance : ℕ) → IsLeast (IsBusy demand) busy
    → Passes own demand queueing → instance < instances_of own busy → InstancePasses own queueing instance
each_if_passes own demand queueing busy instance least it inside =
    let same : busy ≡ it.busy = least_unique (IsBusy demand) busy it.busy least it.least.busy in
    let P : ℕ → Type 0 = λ time. instance < instances_of own time in
    it.each instance (subst P same inside)

-- a frame whose deadline is no earlier than the end of its busy period passes
pub passes_by_busy : (frames : List Timed) (number : ℕ) (higher : List ℕ) (blocked bit busy : ℕ)
    → bit ≤ (frame_at frames number).ticks
    → IsLeast (IsBusy (λ t. blocked + work_of frames higher t + asks_of (frame_at frames number) t)) busy
    → busy + (frame_at frames number).jitter ≤ 256 * (frame_at frames number).period
    → busy + (frame_at frames number).jitter ≤ (frame_at frames number).deadline
    → PassesBlocked frames number higher blocked bit
passes_by_busy frames number higher blocked bit busy bit_le least short early =
    passes_from_shown _ _ _ (record {
      busy = busy;
      holds = record { busy = least.holds; short = short };
      each = λ instance inside.
          let starts = starts_before_end frames number higher blocked bit instance busy bit_le least.holds inside in
          record { start = busy - (frame_at frames number).ticks; can_start = starts.1; in_time = omega (arith, starts.0) };
    })

-- the test of the last frame of a front of an order is that of the frame at its place
pub passes_of_front : (frames : List Timed) (order : List ℕ) (place bit blocked : ℕ) (verdict : Bool) → place < length order
    → blocked ≡ blocking_of frames (lower_of order place)
    → (IsTrue verdict ↔ PassesBlocked frames (own_number (take (place + 1) order) (length (take (place + 1) order) - 1))
    (higher_of (take (place + 1) order) (length (take (place + 1) order) - 1)) blocked bit)
    → IsTrue verdict ↔ FramePasses frames order place bit
passes_of_front frames order place bit blocked verdict inside is it =
    let level : List ℕ = take (place + 1) order in
    let last : length level - 1 ≡ place = omega (arith, length-take (place + 1) order) in
    let number : own_number level (length level - 1) ≡ own_number order place =
    ap (λ i. get_or level i 0) last ∙ get_or-take (place + 1) order place 0 (omega arith) in
    let higher : higher_of level (length level - 1) ≡ higher_of order place =
    ap (λ i. take i level) last ∙ take-take place (place + 1) order (omega arith) in
    let P : ℕ → Type 0 = λ own. IsTrue verdict ↔ PassesBlocked frames own (higher_of level (length level - 1)) blocked bit in
    let Q : List ℕ → Type 0 = λ above. IsTrue verdict ↔ PassesBlocked frames (own_number order place) above blocked bit in
    let R : ℕ → Type 0 = λ ticks. IsTrue verdict ↔ PassesBlocked frames (own_number order place) (higher_of order place) ticks bit in
    subst R is (subst Q higher (subst P number it))
