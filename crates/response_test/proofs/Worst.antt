-- The worst response, instance by instance.
use Rattle.std.proofs.Common.{◌≡◌, ℕ, ◌+◌, ◌*◌, ◌<◌, ◌≤◌, inl, inr, max, subst, arith}
use Rattle.std.proofs.lemmas.Bool.{cases_lt}
use Rattle.std.proofs.lemmas.Grind.{div_ceil_times}
use Rattle.std.proofs.Math.Nat.{mul-le-mul_right}
use Rattle.busy_period.specs.declared.timed.Timed.{Timed}
use Rattle.busy_period.specs.Demand.{instances_of}
use Rattle.busy_period.specs.Busy.{LeastBusy}
use Rattle.busy_period.proofs.Least.{least_unique}
use Rattle.response_test.specs.Passing.{CanStart, Responds, WorstResponse}

-- the greatest response of the first instances, 0 of none
pub record IsWorstSoFar (own : Timed) (queueing : ℕ → ℕ → ℕ) (count worst : ℕ) : Type 0 where
  pub none : count ≡ 0 → worst ≡ 0
  pub reached : 0 < count → (k : ℕ) × (k < count) × Responds own queueing k worst
  pub greatest : (k response : ℕ) → k < count → Responds own queueing k response → response ≤ worst

-- an instance has one response
pub responds_once : (own : Timed) (queueing : ℕ → ℕ → ℕ) (instance response response' : ℕ)
    → Responds own queueing instance response
    → Responds own queueing instance response' → response ≡ response'
responds_once own queueing instance response response' one other =
    let same : one.start ≡ other.start = least_unique (CanStart queueing instance) one.start other.start one.least other.least in
    omega (arith, one.ends, other.ends)

-- one more instance is one more step of the greatest
pub worst_so_far_more : (own : Timed) (queueing : ℕ → ℕ → ℕ) (count worst response worst' : ℕ)
    → IsWorstSoFar own queueing count worst
    → Responds own queueing count response → worst' ≡ max response worst → IsWorstSoFar own queueing (count + 1) worst'
worst_so_far_more own queueing count worst response worst' it next is =
    let P : ℕ → Type 0 = λ r. Responds own queueing count r in
    let here : response ≡ worst' → (k : ℕ) × (k < count + 1) × Responds own queueing k worst' =
    λ same. (count, omega arith, subst P same next) in
    record {
      none = λ no. absurd (omega arith);
      reached = λ _. elim (cases_lt worst response) [
        | inl more ↦ here (omega arith)
        | inr not_more ↦ elim (cases_lt 0 count) [
          | inl some ↦
              let before : (k : ℕ) × (k < count) × Responds own queueing k worst = it.reached some in
              let Q : ℕ → Type 0 = λ r. Responds own queueing before.0 r in
              (before.0, omega (arith, before.1), subst Q (omega arith) before.2)
          | inr none ↦ here (omega (arith, it.none (omega arith)))
        ]
      ];
      greatest = λ k other below responds. elim (cases_lt k count) [
        | inl before ↦ omega (arith, it.greatest k other before responds)
        | inr last ↦
            let same : k ≡ count = omega arith in
            let R : ℕ → Type 0 = λ i. Responds own queueing i other in
            omega (arith, responds_once own queueing count other response (subst R same responds) next)
      ];
    }

-- a busy period has an instance
pub some_instance : (own : Timed) (busy : ℕ) → 1 ≤ busy → 1 ≤ own.period → 0 < instances_of own busy
some_instance own busy some period =
    elim (cases_lt 0 (instances_of own busy)) [
      | inl some' ↦ some'
      | inr none ↦
          let up : busy + own.jitter ≤ instances_of own busy * own.period = (div_ceil_times (busy + own.jitter) own.period period).0 in
          absurd (omega (arith, mul-le-mul_right own.period none))
    ]

-- the greatest of all instances in the busy period is the worst response
pub worst_of_all : (own : Timed) (demand : ℕ → ℕ) (queueing : ℕ → ℕ → ℕ) (busy count worst : ℕ) → 1 ≤ own.period
    → LeastBusy own demand busy
    → count ≡ instances_of own busy → IsWorstSoFar own queueing count worst → WorstResponse own demand queueing worst
worst_of_all own demand queueing busy count worst period least all it =
    let some : 0 < instances_of own busy = some_instance own busy least.busy.holds.some period in
    let reached : (k : ℕ) × (k < count) × Responds own queueing k worst = it.reached (omega arith) in
    record {
      busy = busy;
      least = least;
      instance = reached.0;
      inside = omega (arith, reached.1);
      responds = reached.2;
      greatest = λ other response inside responds. it.greatest other response (omega arith) responds;
    }
