-- What a column that was read says of its value, and that a written value is read back.
use Rattle.std.proofs.Common.{◌≡◌, ◌≤◌, ◌<◌, ◌^◌, ◌==◌, ℕ, Bool, true, false, cond, List, length, Option, Some, None, Result, Ok, Err, refl, arith, decimal}
use Rattle.std.specs.Prelude.{IfOk, IfSome, OnOk}
use Rattle.std.proofs.lemmas.Bool.{ne_eqb}
use Rattle.std.proofs.lemmas.Fmt.{decimal_nonempty}
use Rattle.pack_model.specs.Name.{IsName, is_name}
use Rattle.csv_table.specs.Columns.{◌>>=◌, field_in, name_in, number_in, optional_in, or_error}
use Rattle.csv_table.specs.Decimal.{decimal_of}
use Rattle.csv_table.proofs.Decimals.{decimal_of-decimal, decimal_of-spelled}

-- a number from low to high
pub record Within (low high n : ℕ) : Type 0 where
  pub above : low ≤ n
  pub below : n ≤ high

found_within : (low high k : ℕ) (bytes : List ℕ) (o : Option ℕ)
    → IfSome o (λ n. (bytes ≡ decimal n) × (low ≤ n) × (n ≤ high)) → IfOk (or_error k o) (Within low high)
found_within low high k bytes None h = tt
found_within low high k bytes (Some n) h = record { above = h.1; below = h.2 }

pub number_within : (low high k : ℕ) (fields : List (List ℕ)) → high < 2 ^ 64
    → IfOk (number_in low high k fields) (Within low high)
number_within low high k fields small =
    found_within low high k (field_in k fields) (decimal_of low high (field_in k fields))
    (decimal_of-spelled low high (field_in k fields) small)

filled_within : (low high : ℕ) (r : Result ℕ ℕ) → IfOk r (Within low high)
    → IfOk (r >>= λ n. Ok (Some n)) (λ o. IfSome o (Within low high))
filled_within low high (Ok n) h = h
filled_within low high (Err k) h = tt

either_within : (low high : ℕ) (empty : Bool) (r : Result (Option ℕ) ℕ)
    → IfOk r (λ o. IfSome o (Within low high))
    → IfOk (cond empty (Ok None) r) (λ o. IfSome o (Within low high))
either_within low high true r h = tt
either_within low high false r h = h

pub optional_within : (low high k : ℕ) (fields : List (List ℕ)) → high < 2 ^ 64
    → IfOk (optional_in low high k fields) (λ o. IfSome o (Within low high))
optional_within low high k fields small =
    either_within low high (length (field_in k fields) == 0)
    (number_in low high k fields >>= λ n. Ok (Some n))
    (filled_within low high (number_in low high k fields) (number_within low high k fields small))

named : (bytes : List ℕ) (k : ℕ) (b : Bool) → is_name bytes ≡ b → IfOk (cond b (Ok bytes) (Err k)) IsName
named bytes k true e = e
named bytes k false e = tt

pub name_named : (k : ℕ) (fields : List (List ℕ)) → IfOk (name_in k fields) IsName
name_named k fields = named (field_in k fields) k (is_name (field_in k fields)) refl

-- ---- and back

pub number_back : (low high k n : ℕ) (fields : List (List ℕ)) → field_in k fields ≡ decimal n → high < 2 ^ 64
    → low ≤ n → n ≤ high → number_in low high k fields ≡ Ok n
number_back low high k n fields e small above below =
    rw (e, decimal_of-decimal low high n small above below) refl

pub optional_back : (low high k n : ℕ) (fields : List (List ℕ)) → field_in k fields ≡ decimal n
    → high < 2 ^ 64 → low ≤ n → n ≤ high → optional_in low high k fields ≡ Ok (Some n)
optional_back low high k n fields e small above below =
    let some : (length (decimal n) == 0) ≡ false =
    ne_eqb _ _ (λ z. absurd (omega (arith, z, decimal_nonempty n (omega arith)))) in
    rw (e, some, decimal_of-decimal low high n small above below) refl

pub name_back : (k : ℕ) (name : List ℕ) (fields : List (List ℕ)) → field_in k fields ≡ name
    → is_name name ≡ true → name_in k fields ≡ Ok name
name_back k name fields e is = rw (e, is) refl

-- what holds anyway holds where the call succeeds
pub anyway : {P T E : Type 0} (r : Result T E) → P → OnOk r P
anyway (Ok x) p = p
anyway (Err e) p = tt

-- the greatest number of 32 bits
pub below_32_bits : (o : Option ℕ) → IfSome o (λ n. n < 2 ^ 32) → IfSome o (λ n. n ≤ 4294967295)
below_32_bits None h = tt
below_32_bits (Some n) h = omega (arith, h)
