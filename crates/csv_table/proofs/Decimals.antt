-- Laws on decimals: a number's spelling is read as it, and nothing else is.
use Rattle.std.proofs.Common.{◌≡◌, ◌≤◌, ◌<◌, ℕ, zero, suc, ◌+◌, ◌*◌, ◌-◌, ◌^◌, ◌==◌, ◌||◌, Bool, true, false, not, cond, List, [], ◌∷◌, length, get_or, drop, Some, None, refl, sym, rules, arith, drop-cons, add-one, nat_le, decimal}
use Rattle.std.specs.Prelude.{IfSome}
use Rattle.std.specs.Str.{all_ascii_digits}
use Rattle.std.proofs.lemmas.Bool.{and_parts, eqb-true, leb-true, le-leb, eq-eqb, ne_eqb}
use Rattle.std.proofs.lemmas.Fmt.{decimal-digits_value, decimal_digit, decimal_nonempty, digits_decimal, digits_value-decimal, first_decimal}
use Rattle.std.proofs.lemmas.Str.Parse.{IsNumeralModel, numerals_by_fold, tells_all_ascii_digits}
use Rattle.csv_table.specs.Decimal.{decimal_of, is_decimal, value_after}

-- further digits make no number less
value_after-ge : (n : ℕ) (bytes : List ℕ) → n ≤ value_after n bytes
value_after-ge n [] = omega arith
value_after-ge n (b ∷ rest) = omega (arith, value_after-ge (n * 10 + (b - 48)) rest)

-- digits whose front is beyond the limit spell nothing up to it
pub beyond : (value limit i : ℕ) (bytes : List ℕ) → i < length bytes
    → value_after value (drop i bytes) ≡ value_after 0 bytes → limit < value * 10 + (get_or bytes i 0 - 48)
    → limit < value_after 0 bytes
beyond value limit i bytes at whole over =
    let more = value_after-ge (value * 10 + (get_or bytes i 0 - 48)) (drop (i + 1) bytes) in
    let step : value_after value (drop i bytes)
    ≡ value_after (value * 10 + (get_or bytes i 0 - 48)) (drop (i + 1) bytes) =
    rw (add-one, drop-cons bytes i 0) refl in
    omega (arith, more, step, whole)

-- digits spell their value as std writes it
pub own : IsNumeralModel (λ ds. all_ascii_digits ds ≡ true) (value_after 0)
own = numerals_by_fold _ tells_all_ascii_digits value_after (search rules)

-- a test beside one that is false
pub or_not : (a b : Bool) → (a || not b) ≡ true → b ≡ true → a ≡ true
or_not true b e h = refl
or_not false true e h = cc
or_not false false e h = cc

-- what is a decimal is what std writes of its value
is_decimal-spelled : (bytes : List ℕ) → is_decimal bytes ≡ true → value_after 0 bytes < 2 ^ 64
    → bytes ≡ decimal (value_after 0 bytes)
is_decimal-spelled bytes e small =
    let outer = and_parts _ _ e in
    let inner = and_parts _ _ outer.0 in
    sym (decimal-digits_value own bytes inner.0 (leb-true _ _ inner.1)
    (λ zero. eqb-true _ _ (or_not _ _ outer.1 (eq-eqb _ _ zero))) small)

chosen_some : (b : Bool) (n : ℕ) (P : ℕ → Type 0) → (b ≡ true → P n) → IfSome (cond b (Some n) None) P
chosen_some true n P h = h refl
chosen_some false n P h = tt

-- what is read is spelled so, and in the range
pub decimal_of-spelled : (low high : ℕ) (bytes : List ℕ) → high < 2 ^ 64
    → IfSome (decimal_of low high bytes) (λ n. (bytes ≡ decimal n) × (low ≤ n) × (n ≤ high))
decimal_of-spelled low high bytes small =
    chosen_some _ (value_after 0 bytes) (λ n. (bytes ≡ decimal n) × (low ≤ n) × (n ≤ high)) (λ e.
    let outer = and_parts _ _ e in
    let inner = and_parts _ _ outer.0 in
    let above : low ≤ value_after 0 bytes = leb-true _ _ inner.1 in
    let below : value_after 0 bytes ≤ high = leb-true _ _ outer.1 in
    (is_decimal-spelled bytes inner.0 (omega arith), above, below))

-- a first digit that is not 0 passes the test of decimals
pub lead_passes : (ds : List ℕ) → 48 < get_or ds 0 0 → ((length ds == 1) || not (get_or ds 0 0 == 48)) ≡ true
lead_passes ds first =
    let other : (get_or ds 0 0 == 48) ≡ false = ne_eqb _ _ (λ e. absurd (omega (arith, e))) in
    rw other (ored (length ds == 1))
  where
    ored : (b : Bool) → (b || true) ≡ true
    ored true = refl
    ored false = refl

-- the first digit tells
lead : (n : ℕ) → n < 2 ^ 64 → ((length (decimal n) == 1) || not (get_or (decimal n) 0 0 == 48)) ≡ true
lead zero small = rw (decimal_digit 0 (omega arith)) refl
lead (suc n) small = lead_passes (decimal (suc n)) (first_decimal (suc n) (omega arith) small)

-- each spelling is read
pub decimal_of-decimal : (low high n : ℕ) → high < 2 ^ 64 → low ≤ n → n ≤ high
    → decimal_of low high (decimal n) ≡ Some n
decimal_of-decimal low high n small above below =
    let fits : n < 2 ^ 64 = omega arith in
    let value : value_after 0 (decimal n) ≡ n = digits_value-decimal own n fits in
    let digits : all_ascii_digits (decimal n) ≡ true = digits_decimal own n fits in
    let some : nat_le 1 (length (decimal n)) ≡ true = le-leb _ _ (decimal_nonempty n fits) in
    let l : nat_le low n ≡ true = le-leb _ _ above in
    let h : nat_le n high ≡ true = le-leb _ _ below in
    rw (digits, some, lead n fits, value, l, h) refl
