-- Least numbers: one exists where some number does, and it is the only one.
use Rattle.std.proofs.Common.{◌≡◌, ℕ, ◌+◌, ◌<◌, ◌≤◌, ◌⊎◌, zero, suc, inl, inr, subst, arith}
use Rattle.std.proofs.lemmas.Bool.{cases_lt}
use Rattle.busy_period.specs.Least.{IsLeast}

-- below any number, a test that can be decided has a least solution, or none
pub least_below : (P : ℕ → Type 0) → ((n : ℕ) → P n ⊎ (¬ P n)) → (n : ℕ)
    → ((k : ℕ) × (k < n) × IsLeast P k) ⊎ ((m : ℕ) → m < n → ¬ P m)
least_below P decided zero = inr (λ m below _. omega (arith, below))
least_below P decided (suc n) =
    elim (least_below P decided n) [
      | inl (k, below, found) ↦ inl (k, omega (arith, below), found)
      | inr none ↦ elim (decided n) [
        | inl here ↦ inl (
          n,
          omega arith,
          record {
            holds = here;
            least = λ m it. elim (cases_lt m n) [ inl below ↦ absurd (none m below it) | inr above ↦ above ];
          },
        )
        | inr not_here ↦ inr (λ m below it. elim (cases_lt m n) [
          | inl below' ↦ none m below' it
          | inr above ↦ not_here (let same : m ≡ n = omega arith in subst P same it)
        ])
      ]
    ]

-- where some number solves it, there is a least one
pub least_exists : (P : ℕ → Type 0) → ((n : ℕ) → P n ⊎ (¬ P n)) → (n : ℕ) → P n → (k : ℕ) × IsLeast P k
least_exists P decided n it =
    elim (least_below P decided (n + 1)) [
      | inl (k, below, found) ↦ (k, found)
      | inr none ↦ absurd (none n (omega arith) it)
    ]

-- there is one at most
pub least_unique : (P : ℕ → Type 0) (m n : ℕ) → IsLeast P m → IsLeast P n → m ≡ n
least_unique P m n first second = omega (arith, first.least n second.holds, second.least m first.holds)

-- whether one number is at most another
pub le_decided : (m n : ℕ) → (m ≤ n) ⊎ (¬ (m ≤ n))
le_decided m n = elim (cases_lt n m) [ inl above ↦ inr (λ le. omega arith) | inr le ↦ inl le ]

-- below any number there is a last one at which a test that can be decided holds, or none
pub last_below : (P : ℕ → Type 0) → ((n : ℕ) → P n ⊎ (¬ P n)) → (n : ℕ)
    → ((k : ℕ) × (k < n) × P k × ((m : ℕ) → k < m → m < n → ¬ P m)) ⊎ ((m : ℕ) → m < n → ¬ P m)
last_below P decided zero = inr (λ m below _. omega (arith, below))
last_below P decided (suc n) =
    elim (decided n) [
      | inl here ↦ inl (n, omega arith, here, λ m above below _. omega (arith, above, below))
      | inr not_here ↦
          let at_end : (m : ℕ) → (m < n → ¬ P m) → m < suc n → ¬ P m =
          λ m before below it. elim (cases_lt m n) [
            | inl below' ↦ before below' it
            | inr above ↦ not_here (let same : m ≡ n = omega arith in subst P same it)
          ] in
          elim (last_below P decided n) [
            | inl found ↦ inl (
              found.0,
              omega (arith, found.1),
              found.2,
              λ m above. at_end m (found.3 m above),
            )
            | inr none ↦ inr (λ m. at_end m (none m))
          ]
    ]
