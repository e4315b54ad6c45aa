-- Sums over numbers, facts of all numbers below one, and how many numbers that lie apart fit between two.
use Rattle.std.proofs.Common.{◌≡◌, ℕ, ◌+◌, ◌*◌, ◌<◌, ◌≤◌, zero, suc, inl, inr, Bool, true, false, cond, List, [], ◌∷◌, length, get_or, sum_by, count_by, Contains, refl, sym, ap, subst, ◌∙◌, arith}
use Rattle.std.proofs.lemmas.Bool.{cases_lt}
use Rattle.std.proofs.lemmas.Grind.{div_ceil_times}
use Rattle.std.proofs.lemmas.List.Sums.{sum_by-cons}
use Rattle.std.proofs.Math.Nat.{lt_of_mul-lt-mul_right}
use Rattle.std.specs.Int.{div_ceil}

-- what holds of all numbers below one and of that one holds of all below the next
pub below_more : (P : ℕ → Type 0) (n : ℕ) → ((m : ℕ) → m < n → P m) → P n → (m : ℕ) → m < n + 1 → P m
below_more P n below here m less =
    elim (cases_lt m n) [
      | inl before ↦ below m before
      | inr last ↦ subst P (let is : n ≡ m = omega (arith, less) in is) here
    ]

-- a sum of members of which each is at most another
pub sum_by-le_within : (f g : ℕ → ℕ) (xs : List ℕ) → ((z : ℕ) → Contains xs z → f z ≤ g z)
    → sum_by f xs ≤ sum_by g xs
sum_by-le_within f g [] le = omega arith
sum_by-le_within f g (x ∷ xs) le =
    let rest : sum_by f xs ≤ sum_by g xs =
    sum_by-le_within f g xs (λ z in'. le z (suc in'.0, omega (arith, in'.1), in'.2)) in
    let first : f x ≤ g x = le x (0, omega arith, refl) in
    omega (arith, sum_by-cons f x xs, sum_by-cons g x xs)

-- where one member is less by a number, the sum is
pub sum_by-less_within : (f g : ℕ → ℕ) (less a : ℕ) (xs : List ℕ) → ((z : ℕ) → Contains xs z → f z ≤ g z)
    → Contains xs a → f a + less ≤ g a → sum_by f xs + less ≤ sum_by g xs
sum_by-less_within f g less a [] le (k, below, is) here = absurd (omega (arith, below))
sum_by-less_within f g less a (x ∷ xs) le (zero, below, is) here =
    let rest : sum_by f xs ≤ sum_by g xs =
    sum_by-le_within f g xs (λ z in'. le z (suc in'.0, omega (arith, in'.1), in'.2)) in
    let first : f x + less ≤ g x = subst (λ z. f z + less ≤ g z) (sym is) here in
    omega (arith, sum_by-cons f x xs, sum_by-cons g x xs)
sum_by-less_within f g less a (x ∷ xs) le (suc k, below, is) here =
    let rest : sum_by f xs + less ≤ sum_by g xs =
    sum_by-less_within f g less a xs (λ z in'. le z (suc in'.0, omega (arith, in'.1), in'.2))
    (k, omega (arith, below), is) here in
    let first : f x ≤ g x = le x (0, omega arith, refl) in
    omega (arith, sum_by-cons f x xs, sum_by-cons g x xs)

-- the sum of two
pub sum_by-plus : (f g : ℕ → ℕ) (xs : List ℕ) → sum_by (λ z. f z + g z) xs ≡ sum_by f xs + sum_by g xs
sum_by-plus f g [] = refl
sum_by-plus f g (x ∷ xs) =
    omega (
      arith,
      sum_by-plus f g xs,
      sum_by-cons f x xs,
      sum_by-cons g x xs,
      sum_by-cons (λ z. f z + g z) x xs,
    )

-- a number that fits below with room for one step is at most the quotient rounded up
pub count-le_quotient : (m a y : ℕ) → 1 ≤ y → m * y < a + y → m ≤ div_ceil a y
count-le_quotient m a y some fits =
    let up : a ≤ div_ceil a y * y = (div_ceil_times a y some).0 in
    let below : m * y < (div_ceil a y + 1) * y = omega arith in
    let lt : m < div_ceil a y + 1 = lt_of_mul-lt-mul_right y below in
    omega arith

-- elements that pass a test are from `low` on, each at least a step after the one before, and a step before
-- `high`
pub record AreSpread {X : Type 0} (test : X → Bool) (key : X → ℕ) (low high step : ℕ) (xs : List X)
    (none : X) : Type 0 where
  pub from : low ≤ high
  pub above : (k : ℕ) → k < length xs → test (get_or xs k none) ≡ true → low ≤ key (get_or xs k none)
  pub below : (k : ℕ) → k < length xs → test (get_or xs k none) ≡ true → key (get_or xs k none) + step ≤ high
  pub apart : (i k : ℕ) → i < k → k < length xs → test (get_or xs i none) ≡ true
      → test (get_or xs k none) ≡ true
      → key (get_or xs i none) + step ≤ key (get_or xs k none)

-- then so many steps fit
pub spread_fits : {X : Type 0} (test : X → Bool) (key : X → ℕ) (low high step : ℕ) (xs : List X) (none : X)
    → AreSpread test key low high step xs none → low + count_by test xs * step ≤ high
spread_fits {X} test key low high step [] none it = omega (arith, it.from)
spread_fits {X} test key low high step (x ∷ xs) none it =
    by (λ low' it'. spread_fits test key low' high step xs none it') (test x) refl
  where
    counted : count_by test (x ∷ xs) ≡ cond (test x) 1 0 + count_by test xs
    counted = sum_by-cons (λ y. cond (test y) 1 0) x xs

    by : ((low' : ℕ) → AreSpread test key low' high step xs none → low' + count_by test xs * step ≤ high)
        → (b : Bool) → test x ≡ b → low + count_by test (x ∷ xs) * step ≤ high
    by others true e =
        let first : key x + step ≤ high = it.below 0 (omega arith) e in
        let low' : low ≤ key x = it.above 0 (omega arith) e in
        let rest : (key x + step) + count_by test xs * step ≤ high = others (key x + step) (record {
          from = first;
          above = λ k inside passes. it.apart 0 (suc k) (omega arith) (omega arith) e passes;
          below = λ k inside passes. it.below (suc k) (omega arith) passes;
          apart = λ i k lt inside p p'. it.apart (suc i) (suc k) (omega arith) (omega arith) p p';
        }) in
        let one : count_by test (x ∷ xs) ≡ 1 + count_by test xs =
        counted ∙ ap (λ b. cond b 1 0 + count_by test xs) e in
        let product : count_by test (x ∷ xs) * step ≡ (1 + count_by test xs) * step =
        ap (λ n. n * step) one in
        omega arith
    by others false e =
        let rest : low + count_by test xs * step ≤ high = others low (record {
          from = it.from;
          above = λ k inside passes. it.above (suc k) (omega arith) passes;
          below = λ k inside passes. it.below (suc k) (omega arith) passes;
          apart = λ i k lt inside p p'. it.apart (suc i) (suc k) (omega arith) (omega arith) p p';
        }) in
        let one : count_by test (x ∷ xs) ≡ 0 + count_by test xs =
        counted ∙ ap (λ b. cond b 1 0 + count_by test xs) e in
        let product : count_by test (x ∷ xs) * step ≡ (0 + count_by test xs) * step =
        ap (λ n. n * step) one in
        omega arith
