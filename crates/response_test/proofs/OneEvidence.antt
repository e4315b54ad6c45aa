-- A stage has one evidence.
use Rattle.std.proofs.Common.{◌≡◌, ℕ, ◌+◌, ◌-◌, ◌<◌, ◌≤◌, zero, suc, inl, inr, List, length, get_or, refl, ap, subst, arith}
use Rattle.std.proofs.lemmas.Bool.{cases_lt}
use Rattle.std.proofs.lemmas.List.{ext_get_or}
use Rattle.busy_period.specs.declared.timed.Timed.{Timed}
use Rattle.busy_period.specs.Demand.{demand_of}
use Rattle.response_test.specs.declared.evidence.Evidence.{Evidence}
use Rattle.response_test.specs.declared.evidence.Evidence.TheVariants.{Over, Long, Late}
use Rattle.response_test.specs.Queueing.{queueing_of}
use Rattle.response_test.specs.Frame.{HasInstance}
use Rattle.response_test.specs.Chain.{IsClimb}
use Rattle.response_test.specs.Refuted.{IsFirstLate, IsLongOf, IsLateOf, IsEvidenceOfStage, first_with, first_late}

-- two climbs have the same times
climb_agrees : (demand : ℕ → ℕ) (first until : ℕ) (xs ys : List ℕ)
    → IsClimb demand first until xs → IsClimb demand first until ys
    → (k : ℕ) → k < length xs → k < length ys → get_or xs k 0 ≡ get_or ys k 0
climb_agrees demand first until xs ys one other zero inside inside' = omega (arith, one.begins, other.begins)
climb_agrees demand first until xs ys one other (suc k) inside inside' =
    let same : suc k ≡ k + 1 = omega arith in
    let before : get_or xs k 0 ≡ get_or ys k 0 = climb_agrees demand first until xs ys one other k (omega arith) (omega arith) in
    omega (
      arith,
      ap (λ n. get_or xs n 0) same,
      ap (λ n. get_or ys n 0) same,
      one.climbs k (omega arith),
      other.climbs k (omega arith),
      ap demand before,
    )

-- and neither goes on where the other ends
climb-length-le : (demand : ℕ → ℕ) (first until : ℕ) (xs ys : List ℕ)
    → IsClimb demand first until xs → IsClimb demand first until ys → length ys ≤ length xs
climb-length-le demand first until xs ys one other =
    elim (cases_lt (length xs) (length ys)) [
      | inr within ↦ within
      | inl longer ↦
          let some : 1 ≤ length xs = one.some in
          absurd (omega (
            arith,
            one.reaches,
            climb_agrees demand first until xs ys one other (length xs - 1) (omega arith) (omega arith),
            other.before (length xs - 1) (omega arith),
          ))
    ]

-- so they are one
climb_unique : (demand : ℕ → ℕ) (first until : ℕ) (xs ys : List ℕ)
    → IsClimb demand first until xs → IsClimb demand first until ys → xs ≡ ys
climb_unique demand first until xs ys one other =
    let same : length xs ≡ length ys =
    omega (arith, climb-length-le demand first until xs ys one other, climb-length-le demand first until ys xs other one) in
    ext_get_or 0 xs ys same (λ k inside. climb_agrees demand first until xs ys one other k inside (omega arith))

-- there is one first instance that doesn't pass
first_late_unique : (frames : List Timed) (order : List ℕ) (place bit instance other : ℕ)
    → IsFirstLate frames order place bit instance → IsFirstLate frames order place bit other → instance ≡ other
first_late_unique frames order place bit instance other one two =
    elim (cases_lt instance other) [
      | inl before ↦ absurd (one.late (two.before instance before))
      | inr from ↦ elim (cases_lt other instance) [
        | inl before ↦ absurd (two.late (one.before other before))
        | inr from' ↦ omega arith
      ]
    ]

-- an instance in a busy period denies that there is none
none_is_no_instance : (frames : List Timed) (order : List ℕ) (place bit hyper instance : ℕ) (chain busy queue : List ℕ)
    → IsLongOf frames order place hyper chain → IsLateOf frames order place bit hyper instance busy queue → ⊥
none_is_no_instance frames order place bit hyper instance chain busy queue long late =
    let has : HasInstance frames order place instance = late.first.inside in
    long.none has.busy (record { busy = has.least.busy.holds; short = has.least.short })

-- two numbers of one instance, and their climbs
late_is_one : (frames : List Timed) (order : List ℕ) (place bit hyper instance instance' : ℕ) (busy queue busy' queue' : List ℕ)
    → IsLateOf frames order place bit hyper instance busy queue
    → IsLateOf frames order place bit hyper instance' busy' queue'
    → Late instance busy queue ≡ Late instance' busy' queue'
late_is_one frames order place bit hyper instance instance' busy queue busy' queue' one other =
    let same : instance' ≡ instance = first_late_unique frames order place bit instance' instance other.first one.first in
    let Busy : ℕ → Type 0 = λ n. IsClimb (demand_of frames order place) 1 (first_with frames order place n) busy' in
    let Queue : ℕ → Type 0 = λ n. IsClimb (queueing_of frames order place bit n) 0 (first_late frames order place n) queue' in
    let same_busy : busy ≡ busy' =
    climb_unique (demand_of frames order place) 1 (first_with frames order place instance) busy busy' one.busy_climb
    (subst Busy same other.busy_climb) in
    let same_queue : queue ≡ queue' =
    climb_unique (queueing_of frames order place bit instance) 0 (first_late frames order place instance) queue queue' one.queue_climb
    (subst Queue same other.queue_climb) in
    cc

-- a stage has one evidence
pub evidence_is_one : (frames : List Timed) (order : List ℕ) (place bit hyper : ℕ) (one other : Evidence)
    → IsEvidenceOfStage frames order place bit hyper one → IsEvidenceOfStage frames order place bit hyper other → one ≡ other
evidence_is_one frames order place bit hyper Over Over first second = refl
evidence_is_one frames order place bit hyper Over (Long chain) first second = absurd (second.not_over first)
evidence_is_one frames order place bit hyper Over (Late instance busy queue) first second = absurd (second.not_over first)
evidence_is_one frames order place bit hyper (Long chain) Over first second = absurd (first.not_over second)
evidence_is_one frames order place bit hyper (Long chain) (Long chain') first second =
    ap Long (climb_unique _ _ _ chain chain' first.climb second.climb)
evidence_is_one frames order place bit hyper (Long chain) (Late instance busy queue) first second =
    absurd (none_is_no_instance frames order place bit hyper instance chain busy queue first second)
evidence_is_one frames order place bit hyper (Late instance busy queue) Over first second = absurd (first.not_over second)
evidence_is_one frames order place bit hyper (Late instance busy queue) (Long chain) first second =
    absurd (none_is_no_instance frames order place bit hyper instance chain busy queue second first)
evidence_is_one frames order place bit hyper (Late instance busy queue) (Late instance' busy' queue') first second =
    late_is_one frames order place bit hyper instance instance' busy queue busy' queue' first second
