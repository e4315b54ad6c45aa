-- A header that is read is the header that was written, and lists of zeros.
use Rattle.std.proofs.Common.{◌≡◌, ◌≢◌, ℕ, zero, suc, ◌+◌, ◌<◌, ◌≤◌, ◌/◌, ◌%◌, ◌⊎◌, inl, inr, Bool, true, false, nat_eq, List, [], ◌∷◌, ◌++◌, length, get_or, take, drop, replicate, refl, sym, ap, ◌∙◌, arith}
use Rattle.std.specs.Int.{w32, from_be_bytes, to_be_bytes}
use Rattle.std.proofs.lemmas.Bool.{cases_lt, and_parts, eqb-true}
use Rattle.std.proofs.lemmas.List.{take_more, take-take, drop-take, take-append-drop, length-take, length-take-le, length-drop, get_or-drop, get_or-take, get_or_past}
use Rattle.std.proofs.lemmas.List.Folds.{list_all-append}
use Rattle.std.proofs.lemmas.Nat.{be_bytes_4, from_be_bytes-to_be_bytes_4}
use Rattle.container_pdu.specs.declared.header.Header.{Header}
use Rattle.container_pdu.specs.declared.header.Header.TheVariants.{NoHeader, Short, Long}
use Rattle.container_pdu.specs.Bytes.{header_bytes, header_text, id_limit, length_limit}
use Rattle.container_pdu.specs.Reading.{id_in, length_in, is_zeros}

abbrev pub IsBytes : List ℕ → Type 0
IsBytes bytes = (i : ℕ) → get_or bytes i 0 < 256

pub IsBytes-drop : (n : ℕ) (bytes : List ℕ) → IsBytes bytes → IsBytes (drop n bytes)
IsBytes-drop n bytes h i = rw get_or-drop (h (n + i))

pub IsBytes-take : (n : ℕ) (bytes : List ℕ) → IsBytes bytes → IsBytes (take n bytes)
IsBytes-take n bytes h i =
    elim (cases_lt i n) [
      | inl lt ↦ rw (get_or-take n bytes i 0 lt) (h i)
      | inr le ↦ rw (get_or_past (take n bytes) i 0 (omega (arith, length-take n bytes))) (omega arith)
    ]

IsBytes-zero : (bytes : List ℕ) → IsBytes bytes → IsBytes (0 ∷ bytes)
IsBytes-zero bytes h zero = omega arith
IsBytes-zero bytes h (suc i) = h i

-- ---- zeros

pub two : (b : Bool) → (b ≡ true) ⊎ (b ≡ false)
two true = inl refl
two false = inr refl

pub zeros_are : (bytes : List ℕ) → is_zeros bytes ≡ true → bytes ≡ replicate (length bytes) 0
zeros_are [] e = refl
zeros_are (b ∷ bs) e =
    let p = and_parts (nat_eq b 0) (is_zeros bs) e in
    let first : b ≡ 0 = eqb-true b 0 p.0 in
    let rest : bs ≡ replicate (length bs) 0 = zeros_are bs p.1 in
    ap (λ (n : ℕ). n ∷ bs) first ∙ ap (λ (t : List ℕ). 0 ∷ t) rest

pub is_zeros-replicate : (n : ℕ) → is_zeros (replicate n 0) ≡ true
is_zeros-replicate zero = refl
is_zeros-replicate (suc n) = is_zeros-replicate n

zeros_at : (bytes : List ℕ) (i : ℕ) → is_zeros bytes ≡ true → get_or bytes i 0 ≡ 0
zeros_at [] i e = refl
zeros_at (b ∷ bs) zero e = eqb-true b 0 (and_parts (nat_eq b 0) (is_zeros bs) e).0
zeros_at (b ∷ bs) (suc i) e = zeros_at bs i (and_parts (nat_eq b 0) (is_zeros bs) e).1

zeros_front : (n : ℕ) (bytes : List ℕ) → is_zeros bytes ≡ true → is_zeros (take n bytes) ≡ true
zeros_front n bytes e =
    let parts = list_all-append (λ byte. nat_eq byte 0) (take n bytes) (drop n bytes) in
    let whole : is_zeros (take n bytes ++ drop n bytes) ≡ true = ap is_zeros (take-append-drop n bytes) ∙ e in
    (and_parts (is_zeros (take n bytes)) (is_zeros (drop n bytes)) (sym parts ∙ whole)).0

pub id_of_zeros : (kind : Header) (bytes : List ℕ) → is_zeros bytes ≡ true → id_in kind bytes ≡ 0
id_of_zeros NoHeader bytes e = refl
id_of_zeros Short bytes e =
    let f = λ (i : ℕ). zeros_at (take 3 bytes) i (zeros_front 3 bytes e) in
    omega (arith, f 0, f 1, f 2)
id_of_zeros Long bytes e =
    let f = λ (i : ℕ). zeros_at (take 4 bytes) i (zeros_front 4 bytes e) in
    omega (arith, f 0, f 1, f 2, f 3)

-- ---- what is written is read

pub header_len : (kind : Header) (id count : ℕ) → length (header_text kind id count) ≡ header_bytes kind
header_len NoHeader id count = refl
header_len Short id count = refl
header_len Long id count = refl

pub some_bytes : (kind : Header) → kind ≢ NoHeader → 4 ≤ header_bytes kind
some_bytes NoHeader ne = absurd (ne refl)
some_bytes Short ne = omega arith
some_bytes Long ne = omega arith

pub id_again : (kind : Header) (id count : ℕ) (rest : List ℕ) → id < id_limit kind
    → id_in kind (header_text kind id count ++ rest) ≡ id
id_again NoHeader id count rest lt = absurd (omega arith)
id_again Short id count rest lt =
    let e = from_be_bytes-to_be_bytes_4 id (omega arith) in
    let top : id / 16777216 % 256 ≡ 0 = omega arith in
    omega (arith, e, top)
id_again Long id count rest lt = from_be_bytes-to_be_bytes_4 id lt

pub length_again : (kind : Header) (id count : ℕ) (rest : List ℕ) → count < length_limit kind
    → length_in kind (header_text kind id count ++ rest) ≡ count
length_again NoHeader id count rest lt = absurd (omega arith)
length_again Short id count rest lt = refl
length_again Long id count rest lt = from_be_bytes-to_be_bytes_4 count lt

-- ---- what is read is written

four_again : (bytes : List ℕ) → length bytes ≡ 4 → IsBytes bytes
    → to_be_bytes w32 (from_be_bytes w32 bytes) ≡ bytes
four_again bytes len fits = be_bytes_4 bytes _ len fits refl

take_two : (m n : ℕ) (bytes : List ℕ) → take m bytes ++ take n (drop m bytes) ≡ take (m + n) bytes
take_two m n bytes =
    let front : take m (take (m + n) bytes) ≡ take m bytes = take-take m (m + n) bytes (omega arith) in
    let back : drop m (take (m + n) bytes) ≡ take n (drop m bytes) = drop-take m n bytes in
    rw (← front, ← back) (take-append-drop m (take (m + n) bytes))

pub header_taken : (kind : Header) (bytes : List ℕ) → IsBytes bytes → header_bytes kind ≤ length bytes
    → header_text kind (id_in kind bytes) (length_in kind bytes) ≡ take (header_bytes kind) bytes
header_taken NoHeader bytes fits long = refl
header_taken Short bytes fits long =
    let len : length (take 3 bytes) ≡ 3 = length-take-le 3 bytes (omega arith) in
    let e =
    four_again (0 ∷ take 3 bytes) (ap suc len)
    (IsBytes-zero (take 3 bytes) (IsBytes-take 3 bytes fits)) in
    ap (λ (t : List ℕ). drop 1 t ++ get_or bytes 3 0 ∷ []) e ∙ sym (take_more bytes 3 0 (omega arith))
header_taken Long bytes fits long =
    let back = drop 4 bytes in
    let first =
    four_again (take 4 bytes) (length-take-le 4 bytes (omega arith)) (IsBytes-take 4 bytes fits) in
    let second =
    four_again (take 4 (drop 4 bytes))
    (length-take-le 4 (drop 4 bytes) (omega (arith, length-drop 4 bytes)))
    (IsBytes-take 4 (drop 4 bytes) (IsBytes-drop 4 bytes fits)) in
    ap (λ (t : List ℕ). t ++ to_be_bytes w32 (length_in Long bytes)) first
    ∙ ap (λ (t : List ℕ). take 4 bytes ++ t) second ∙ take_two 4 4 bytes
