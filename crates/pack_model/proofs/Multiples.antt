-- Least common multiples, and the common period of a list.
use Rattle.std.proofs.Common.{◌≡◌, ◌≤◌, ◌<◌, ◌+◌, ◌*◌, ◌/◌, ◌%◌, ◌⊎◌, ℕ, Bool, true, false, List, [], ◌∷◌, suc, zero, fold, find, Some, unwrap_or, nat_eq, refl, sym, ap, cond, subst, ◌∙◌, arith, inl, inr, true≢false, All}
use Rattle.std.specs.List.{range_with_len}
use Rattle.std.specs.Int.{IsGcd, ◌∣◌}
use Rattle.std.proofs.lemmas.Bool.{cases_eq, eq-eqb, eqb-true}
use Rattle.std.proofs.lemmas.List.Elements.{All-nil, All-cons, All-head, All-tail}
use Rattle.std.proofs.Math.Nat.{dvd_refl, dvd-mul_left, dvd-mul_right, dvd_trans, dvd-mul_right_of_dvd, dvd-add_iff_right, le_of_dvd, pos_of_dvd_of_pos, mod-eq-zero_of_dvd, dvd_of_mod-eq-zero, mul-div_cancel', mod-lt, dvd_of_mul-dvd-mul_left, mul-dvd-mul_left, le_of_mul-le-mul_left, mul-le-mul_right, one-dvd, mul_comm}
use Rattle.pack_model.specs.Problem.{lcm, IsCommonPeriod}

-- m is the least number from `low` on that passes
pub record IsFirst (p : ℕ → Bool) (low m : ℕ) : Type 0 where
  pub from : low ≤ m
  pub passes : p m ≡ true
  pub least : (j : ℕ) → low ≤ j → p j ≡ true → m ≤ j

-- a search that meets a number that passes finds the least
found : (p : ℕ → Bool) (n low k : ℕ) → low ≤ k → k < low + n → p k ≡ true
    → (m : ℕ) × (find p (range_with_len low n) ≡ Some m) × IsFirst p low m
found p zero low k le lt is = absurd (omega arith)
found p (suc n) low k le lt is = by (p low) refl (λ high. found p n (low + 1) k high (omega arith) is)
  where
    later : (j : ℕ) → p low ≡ false → low ≤ j → p j ≡ true → low + 1 ≤ j
    later j fails from passes = by_cases (cases_eq low j)
      where
        by_cases : (low ≡ j) ⊎ (low ≡ j → ⊥) → low + 1 ≤ j
        by_cases (inl e) = absurd (true≢false (sym (ap p e ∙ passes) ∙ fails))
        by_cases (inr ne) = omega arith

    by : (b : Bool) → p low ≡ b
        → (low + 1 ≤ k → (m : ℕ) × (find p (range_with_len (low + 1) n) ≡ Some m) × IsFirst p (low + 1) m)
        → (m : ℕ) × (find p (range_with_len low (suc n)) ≡ Some m) × IsFirst p low m
    by true e next = (
      low,
      ap (λ b. cond b (Some low) (find p (range_with_len (low + 1) n))) e,
      record { from = omega arith; passes = e; least = λ j from passes. from },
    )
    by false e next =
        let rest = next (later k e le is) in (
          rest.0,
          ap (λ b. cond b (Some low) (find p (range_with_len (low + 1) n))) e
              ∙ rest.1,
          record {
            from = let up : low + 1 ≤ rest.0 = rest.2.from in omega arith;
            passes =
                rest.2.passes;
            least = λ j from passes. rest.2.least j (later j e from passes) passes;
          },
        )

-- m is the least number from 1 on whose product with a is a multiple of b
pub record IsLeastFactor (a b m : ℕ) : Type 0 where
  pub some : 1 ≤ m
  pub divides : b ∣ a * m
  pub least : (k : ℕ) → 1 ≤ k → b ∣ a * k → m ≤ k

-- the least common multiple is the multiple by the least factor
pub lcm_factor : (a b : ℕ) → 1 ≤ b → (m : ℕ) × (lcm a b ≡ a * m) × IsLeastFactor a b m
unfolding lcm
lcm_factor a b some =
    let all : nat_eq ((a * b) % b) 0 ≡ true =
    eq-eqb ((a * b) % b) 0 (mod-eq-zero_of_dvd b (dvd-mul_left b a)) in
    let first = found (λ k. nat_eq ((a * k) % b) 0) b 1 b some (omega arith) all in (
      first.0,
      ap (λ o. a * unwrap_or o b) first.1,
      record {
        some = first.2.from;
        divides = dvd_of_mod-eq-zero b (eqb-true ((a * first.0) % b) 0 first.2.passes);
        least = λ k low is. first.2.least k low (eq-eqb ((a * k) % b) 0 (mod-eq-zero_of_dvd b is));
      },
    )

-- it divides every other such factor
factor_divides : (a b m q : ℕ) → IsLeastFactor a b m → b ∣ a * q → m ∣ q
factor_divides a b m q is divides = by (cases_eq (q % m) 0)
  where
    some : 0 < m
    some = is.some

    rest : b ∣ a * (q % m)
    rest =
        let parts : m * (q / m) + q % m ≡ q = omega arith in
        let front : b ∣ a * (m * (q / m)) =
        subst (λ n. b ∣ n) (omega arith) (dvd-mul_right_of_dvd b is.divides (q / m)) in
        let sum : a * (m * (q / m)) + a * (q % m) ≡ a * q = omega (arith, ap (λ n. a * n) parts) in
        (dvd-add_iff_right b front).1 (subst (λ n. b ∣ n) (sym sum) divides)

    by : (q % m ≡ 0) ⊎ (q % m ≡ 0 → ⊥) → m ∣ q
    by (inl e) = dvd_of_mod-eq-zero m e
    by (inr ne) =
        let low : 1 ≤ q % m = omega arith in
        let small : q % m < m = mod-lt q some in
        let great : m ≤ q % m = is.least (q % m) low rest in
        absurd (omega arith)

-- the least common multiple by the greatest common divisor
pub lcm_by_gcd : (a b g : ℕ) → 1 ≤ a → 1 ≤ b → IsGcd a b g → lcm a b ≡ a * (b / g)
lcm_by_gcd a b g some_a some_b gcd =
    let found = lcm_factor a b some_b in
    let same : found.0 ≡ b / g = quotient found.0 found.2 in
    found.1 ∙ ap (λ n. a * n) same
  where
    some_g : 0 < g
    some_g = pos_of_dvd_of_pos gcd.0 some_a

    quotient : (m : ℕ) → IsLeastFactor a b m → m ≡ b / g
    quotient m is =
        let in_b : m ∣ b = factor_divides a b m b is (dvd-mul_left b a) in
        let c : ℕ = b / m in
        let whole_b : m * (b / m) ≡ b = mul-div_cancel' m in_b in
        let by_g : g * (b / g) ≡ b = mul-div_cancel' g gcd.1 in
        let by_a : g * (a / g) ≡ a = mul-div_cancel' g gcd.0 in
        let in_a : (b / m) ∣ a =
        dvd_of_mul-dvd-mul_left (b / m) is.some
        (subst (λ n. n ∣ m * a) (sym whole_b) (subst (λ n. b ∣ n) (mul_comm a m) is.divides)) in
        let also_b : (b / m) ∣ b = subst (λ n. (b / m) ∣ n) whole_b (dvd-mul_left (b / m) m) in
        let in_g : (b / m) ∣ g = gcd.2 (b / m) in_a also_b in
        let small : b / m ≤ g = le_of_dvd some_g in_g in
        let product : a * (b / g) ≡ b * (a / g) = products a b g (a / g) (b / g) by_a by_g in
        let fits : b ∣ a * (b / g) = subst (λ n. b ∣ n) (sym product) (dvd-mul_right b (a / g)) in
        let up : m ∣ b / g = factor_divides a b m (b / g) is fits in
        let some_q : 0 < b / g =
        pos_of_dvd_of_pos (subst (λ n. (b / g) ∣ n) by_g (dvd-mul_left (b / g) g)) some_b in
        let most : m ≤ b / g = le_of_dvd some_q up in
        let least : b / g ≤ m =
        le_of_mul-le-mul_left (bounded m (b / m) g (b / g) small whole_b by_g) some_g in
        omega arith
      where
        products : (a b g p q : ℕ) → g * p ≡ a → g * q ≡ b → a * q ≡ b * p
        products a b g p q e f = sym (ap (λ n. n * q) e) ∙ omega arith ∙ ap (λ n. n * p) f

        bounded : (m c g q : ℕ) → c ≤ g → m * c ≡ b → g * q ≡ b → g * q ≤ g * m
        bounded m c g q le e f = let more : c * m ≤ g * m = mul-le-mul_right m le in omega arith

pub dvd-lcm_left : (a b : ℕ) → 1 ≤ b → a ∣ lcm a b
dvd-lcm_left a b some = let found = lcm_factor a b some in
    subst (λ n. a ∣ n) (sym found.1) (dvd-mul_right a found.0)

pub dvd-lcm_right : (a b : ℕ) → 1 ≤ b → b ∣ lcm a b
dvd-lcm_right a b some = let found = lcm_factor a b some in subst (λ n. b ∣ n) (sym found.1) found.2.divides

-- a common multiple is a multiple of the least one
pub lcm-dvd : (a b n : ℕ) → 1 ≤ b → a ∣ n → b ∣ n → lcm a b ∣ n
lcm-dvd a b n some in_a in_b =
    let found = lcm_factor a b some in
    let whole : a * (n / a) ≡ n = mul-div_cancel' a in_a in
    let factor : found.0 ∣ n / a =
    factor_divides a b found.0 (n / a) found.2 (subst (λ k. b ∣ k) (sym whole) in_b) in
    subst (λ k. k ∣ n) (sym found.1) (subst (λ k. a * found.0 ∣ k) whole (mul-dvd-mul_left found.0 a factor))

pub lcm_some : (a b : ℕ) → 1 ≤ a → 1 ≤ b → 1 ≤ lcm a b
lcm_some a b some_a some_b =
    let found = lcm_factor a b some_b in
    let more : 1 * found.0 ≤ a * found.0 = mul-le-mul_right found.0 some_a in
    let factor : 1 ≤ found.0 = found.2.some in
    omega (arith, found.1)

-- what the multiple of a list is
pub record IsMultiple (first : ℕ) (periods : List ℕ) (n : ℕ) : Type 0 where
  pub some : 1 ≤ n
  pub start : first ∣ n
  pub each : All (λ period. period ∣ n) periods
  pub least : (other : ℕ) → first ∣ other → All (λ period. period ∣ other) periods → n ∣ other

pub fold_lcm : (start : ℕ) (periods : List ℕ) → 1 ≤ start → All (λ period. 1 ≤ period) periods
    → IsMultiple start periods (fold lcm start periods)
fold_lcm start [] some all =
    record {
      some = some;
      start = dvd_refl start;
      each = All-nil (λ period. period ∣ start);
      least =
          λ other is none. is;
    }
fold_lcm start (p ∷ ps) some all =
    let low = All-head (λ period. 1 ≤ period) p ps all in
    let rest =
    fold_lcm (lcm start p) ps (lcm_some start p some low) (All-tail (λ period. 1 ≤ period) p ps all) in
    let n : ℕ = fold lcm (lcm start p) ps in
    record {
      some = rest.some;
      start = dvd_trans start (dvd-lcm_left start p low) rest.start;
      each =
          All-cons (λ period. period ∣ fold lcm (lcm start p) ps) p ps
          (dvd_trans p (dvd-lcm_right start p low) rest.start) rest.each;
      least =
          λ other is each. rest.least other
          (lcm-dvd start p other low is (All-head (λ period. period ∣ other) p ps each))
          (All-tail (λ period. period ∣ other) p ps each);
    }

-- more periods make no shorter a common one
pub fold_lcm_up : (start : ℕ) (periods : List ℕ) → 1 ≤ start → All (λ period. 1 ≤ period) periods
    → start ≤ fold lcm start periods
fold_lcm_up start periods some all = let is = fold_lcm start periods some all in le_of_dvd is.some is.start

-- the fold over all periods is their common period
pub common_period : (periods : List ℕ) → All (λ period. 1 ≤ period) periods
    → IsCommonPeriod periods (fold lcm 1 periods)
common_period periods all =
    let is = fold_lcm 1 periods (omega arith) all in
    record {
      some = is.some;
      each = λ k d lt. mod-eq-zero_of_dvd _ (is.each k d lt);
      least =
          λ other some each. le_of_dvd some
          (is.least other (one-dvd other) (λ k d lt. dvd_of_mod-eq-zero _ (each k d lt)));
    }
