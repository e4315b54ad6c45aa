-- Numbers below 2 ^ 128 as std writes them.
use Rattle.std.proofs.Common.{◌≡◌, ◌<◌, ◌≤◌, ◌^◌, ◌+◌, ◌*◌, ◌/◌, ◌%◌, ◌==◌, ◌||◌, ℕ, zero, suc, List, [], ◌∷◌, ◌++◌, length, get_or, decimal, Bool, true, false, not, Some, refl, sym, ap, ◌∙◌, arith, nat_le, nat_lt, append_assoc, append-nil, length-append, rules}
use Rattle.std.proofs.Math.ListN.{get_or-append}
use Rattle.std.specs.Str.{all_ascii_digits}
use Rattle.std.specs.Str.Parse.{AllDigits, digits_value, digits_value_after}
use Rattle.std.specs.Char.{digit_value}
use Rattle.std.proofs.lemmas.Bool.{and_parts, eq-eqb, eqb-true, le-leb, leb-true, lt-ltb, ne_eqb}
use Rattle.std.proofs.lemmas.Fmt.{decimal_by_steps_wide, decimal_digit, decimal_is_IsNumeral_wide, decimal_step_wide}
use Rattle.std.proofs.lemmas.Str.{digit_value_digit}
use Rattle.std.proofs.lemmas.Str.Parse.{IsNumeralModel, digit_from_value, numerals_by_fold, tells_all_ascii_digits}
use Rattle.csv_table.specs.Decimal.{is_decimal, value_after}
use Rattle.cert_text.specs.Words.{wide_of}

-- further digits make a number no less
le_value_after : (n : ℕ) (ds : List ℕ) → n ≤ digits_value_after 10 n ds
le_value_after n [] = omega arith
le_value_after n (c ∷ cs) = omega (arith, le_value_after (n * 10 + digit_value c) cs)

-- the digits after others
decimal_after : (n : ℕ) (ds : List ℕ) → 0 < n → AllDigits 10 ds → digits_value_after 10 n ds < 10 ^ 64 → decimal (digits_value_after 10 n ds) ≡ decimal n ++ ds
decimal_after n [] some d small = sym (append-nil (decimal n))
decimal_after n (c ∷ cs) some d small =
    let m : ℕ = n * 10 + digit_value c in
    let k = digit_value_digit c (digit_from_value c d.0) in
    let front : m / 10 ≡ n = omega (arith, d.0) in
    let end : 48 + m % 10 ≡ c = omega (arith, d.0) in
    decimal_after m cs (omega arith) d.1 small ∙ ap (λ x. x ++ cs) (decimal_step_wide m (omega arith) (omega (arith, le_value_after m cs)) ∙ (λ i. decimal (front i) ++ (end i ∷ [])))
    ∙ append_assoc (decimal n) (c ∷ []) cs

-- the value of a decimal
decimal_value : (ds : List ℕ) → AllDigits 10 ds → 0 < length ds → (get_or ds 0 0 ≡ 48 → length ds ≡ 1) → digits_value 10 ds < 10 ^ 64 → decimal (digits_value 10 ds) ≡ ds
decimal_value [] d some lead small = absurd (omega arith)
decimal_value (c ∷ []) d some lead small =
    let k = digit_value_digit c (digit_from_value c d.0) in
    decimal_digit (0 * 10 + digit_value c) (omega (arith, d.0)) ∙ ap (λ x. x ∷ []) (omega arith)
decimal_value (c ∷ e ∷ cs) d some lead small =
    let k = digit_value_digit c (digit_from_value c d.0) in
    let no : c ≡ 48 → ⊥ = λ z. omega (arith, lead z) in
    let is : 48 + (0 * 10 + digit_value c) ≡ c = omega arith in
    decimal_after (0 * 10 + digit_value c) (e ∷ cs) (omega arith) d.1 small ∙ ap (λ x. x ++ (e ∷ cs)) (decimal_digit (0 * 10 + digit_value c) (omega (arith, d.0)) ∙ ap (λ x. x ∷ []) is)

-- a digit is its own
own : IsNumeralModel (λ ds. all_ascii_digits ds ≡ true) (value_after 0)
own = numerals_by_fold _ tells_all_ascii_digits value_after (search rules)

-- a test that is false
or_not : (a b : Bool) → (a || not b) ≡ true → b ≡ true → a ≡ true
or_not true b e h = refl
or_not false true e h = cc
or_not false false e h = cc

-- digits spell their value
pub wide_spelled : (w : List ℕ) → is_decimal w ≡ true → value_after 0 w < 2 ^ 128 → w ≡ decimal (value_after 0 w)
wide_spelled w e small =
    let outer = and_parts _ _ e in
    let inner = and_parts _ _ outer.0 in
    let digits = own.to w inner.0 in
    let same = own.same w digits in
    sym (ap decimal same ∙ decimal_value w digits (leb-true _ _ inner.1) (λ z. eqb-true _ _ (or_not _ _ outer.1 (eq-eqb _ _ z))) (omega (arith, same)))

-- the first digit of a number
first_digit : (n : ℕ) → 0 < n → n < 10 ^ 64 → 48 < get_or (decimal n) 0 0
first_digit n some small = (decimal_by_steps_wide (λ m ds. (0 < length ds) × (0 < m → 48 < get_or ds 0 0)) (λ m l. (omega arith, λ a. omega arith))
    (λ m ds l h. (omega (arith, length-append ds ((48 + m % 10) ∷ [])), λ a. omega (arith, get_or-append ds ((48 + m % 10) ∷ []) 0 0 h.0, h.1 (omega arith)))) n small).1 some

-- a decimal begins with no zero
lead : (n : ℕ) → n < 10 ^ 64 → ((length (decimal n) == 1) || not (get_or (decimal n) 0 0 == 48)) ≡ true
lead zero small = rw (decimal_digit 0 (omega arith)) refl
lead (suc n) small =
    let first : 48 < get_or (decimal (suc n)) 0 0 = first_digit (suc n) (omega arith) small in
    let other : (get_or (decimal (suc n)) 0 0 == 48) ≡ false = ne_eqb _ _ (λ e. absurd (omega (arith, e))) in
    rw other (ored (length (decimal (suc n)) == 1))
  where
    ored : (b : Bool) → (b || true) ≡ true
    ored true = refl
    ored false = refl

-- a decimal is digits
pub digits_of_decimal : (n : ℕ) → n < 2 ^ 128 → AllDigits 10 (decimal n)
digits_of_decimal n small = (decimal_is_IsNumeral_wide n (omega arith)).0.1

-- a number below 2 ^ 128 is said by its decimal
pub wide_back : (n : ℕ) → n < 2 ^ 128 → wide_of (decimal n) ≡ Some n
wide_back n small =
    let is = decimal_is_IsNumeral_wide n (omega arith) in
    let value : value_after 0 (decimal n) ≡ n = own.same (decimal n) is.0.1 ∙ is.1 in
    let digits : all_ascii_digits (decimal n) ≡ true = own.from (decimal n) is.0.1 in
    let some : nat_le 1 (length (decimal n)) ≡ true = le-leb _ _ is.0.0 in
    let below : nat_lt n (2 ^ 128) ≡ true = lt-ltb _ _ small in
    rw (digits, some, lead n (omega arith), value, below) refl
