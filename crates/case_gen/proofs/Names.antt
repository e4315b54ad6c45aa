-- Letters and a number are a name.
use Rattle.std.proofs.Common.{◌≡◌, ℕ, ◌+◌, ◌%◌, ◌<◌, ◌≤◌, ◌^◌, ◌&&◌, true, IsTrue, List, [], ◌∷◌, ◌++◌, length, ◌∙◌, ap, arith, decimal, length-append}
use Rattle.std.specs.List.{list_all}
use Rattle.std.proofs.lemmas.Bool.{le-leb}
use Rattle.std.proofs.lemmas.Fmt.{decimal_by_steps, decimal_nonempty, length-decimal-le}
use Rattle.std.proofs.lemmas.List.Folds.{list_all-append}
use Rattle.std.proofs.Math.Path.{ap₂}
use Rattle.pack_model.specs.Name.{IsName, is_name_byte}

-- a digit is a byte of a name
digit_is_name_byte : (digit : ℕ) → digit < 10 → is_name_byte (48 + digit) ≡ true
digit_is_name_byte digit below = grind arith

-- a decimal is of such bytes
decimal_of_name_bytes : (number : ℕ) → number < 2 ^ 64 → list_all is_name_byte (decimal number) ≡ true
decimal_of_name_bytes number below =
    decimal_by_steps (λ _ digits. list_all is_name_byte digits ≡ true)
    (λ digit low. ap (λ b. b && true) (digit_is_name_byte digit low))
    (λ n digits more so_far.
    list_all-append is_name_byte digits ((48 + n % 10) ∷ [])
    ∙ ap₂ (λ a b. a && (b && true)) so_far (digit_is_name_byte (n % 10) (omega arith)))
    number below

-- a few letters and a number are a name
pub numbered_is_name : (letters : List ℕ) (number : ℕ) → length letters ≤ 8 → IsTrue (list_all is_name_byte letters)
    → number < 2 ^ 32 → IsName (letters ++ decimal number)
numbered_is_name letters number short named below =
    let some : 0 < length (decimal number) = decimal_nonempty number (omega arith) in
    let few : length (decimal number) ≤ 10 = length-decimal-le 10 number (omega arith) (omega arith) (omega arith) in
    let whole : length (letters ++ decimal number) ≡ length letters + length (decimal number) = length-append letters (decimal number) in
    let each : list_all is_name_byte (letters ++ decimal number) ≡ true =
    list_all-append is_name_byte letters (decimal number) ∙ ap₂ (λ a b. a && b) named (decimal_of_name_bytes number (omega arith)) in
    ap₂ (λ a b. a && b)
    (ap₂ (λ a b. a && b) (le-leb 1 (length (letters ++ decimal number)) (omega arith)) (le-leb (length (letters ++ decimal number)) 64 (omega arith)))
    each
