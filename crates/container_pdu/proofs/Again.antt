-- What is written is read again.
use Rattle.std.proofs.Common.{◌≡◌, ◌≢◌, ℕ, zero, suc, ◌-◌, ◌<◌, ◌≤◌, inl, inr, false, nat_eq, nat_lt, List, [], ◌∷◌, ◌++◌, length, get_or, replicate, Ok, refl, sym, ap, subst, ◌∙◌, append_assoc, arith}
use Rattle.std.specs.Prelude.{All, AllPairs}
use Rattle.std.proofs.lemmas.Bool.{le-ltb, eqb-true}
use Rattle.std.proofs.lemmas.List.{append-nil, take_at, drop_at, length-append, get_or_append_left, get_or-append_right}
use Rattle.std.proofs.lemmas.List.Elements.{All-head, All-tail}
use Rattle.std.proofs.lemmas.List.Folds.{list_any_none}
use Rattle.container_pdu.specs.declared.header.Header.{Header}
use Rattle.container_pdu.specs.declared.header.Header.TheVariants.{NoHeader}
use Rattle.container_pdu.specs.declared.part.Part.{Part}
use Rattle.container_pdu.specs.Bytes.{Fits, container_text, header_bytes, header_text, id_limit, length_limit, part_text, parts_text}
use Rattle.container_pdu.specs.Reading.{has_id, is_zeros, part_at, parts_after, parts_of}
use Rattle.container_pdu.proofs.Headers.{two, is_zeros-replicate, id_of_zeros, header_len, some_bytes, id_again, length_again}

-- a part that has a header of its kind
pub record IsPart (kind : Header) (part : Part) : Type 0 where
  pub some_id : 1 ≤ part.id
  pub id : part.id < id_limit kind
  pub count : length part.bytes < length_limit kind

-- an id of 1 or more is not 0
pub no_zero : (id : ℕ) → 1 ≤ id → nat_eq id 0 ≡ false
no_zero id some =
    elim (two (nat_eq id 0)) [
      | inl is ↦ let e : id ≡ 0 = eqb-true id 0 is in absurd (omega arith)
      | inr isnt ↦ isnt
    ]

differ : (a b : ℕ) → a ≢ b → nat_eq a b ≡ false
differ a b ne =
    elim (two (nat_eq a b)) [
      | inl is ↦ absurd (ne (eqb-true a b is))
      | inr isnt ↦ isnt
    ]

-- the bytes of a part begin so
begun : (kind : Header) (part : Part) (rest : List ℕ)
    → part_text kind part ++ rest ≡ header_text kind part.id (length part.bytes) ++ (part.bytes ++ rest)
begun kind part rest = append_assoc (header_text kind part.id (length part.bytes)) part.bytes rest

zero_left : (n : ℕ) → n - n ≡ 0
zero_left n = omega arith

part_begun : (kind : Header) (at : ℕ) (earlier : List Part) (part : Part) (rest : List ℕ) → IsPart kind part
    → has_id part.id earlier ≡ false
    → part_at kind at earlier (header_text kind part.id (length part.bytes) ++ (part.bytes ++ rest))
    ≡ Ok (part, rest)
part_begun kind at earlier part rest is fresh =
    let len = header_len kind part.id (length part.bytes) in
    let long : nat_lt (length (header_text kind part.id (length part.bytes) ++ (part.bytes ++ rest)))
    (header_bytes kind) ≡ false =
    le-ltb _ _ (omega (
      arith,
      length-append (header_text kind part.id (length part.bytes)) (part.bytes ++ rest),
    )) in
    let body : nat_lt (length (part.bytes ++ rest)) (length part.bytes) ≡ false =
    le-ltb _ _ (omega (arith, length-append part.bytes rest)) in
    rw (
      long,
      id_again kind part.id (length part.bytes) (part.bytes ++ rest) is.id,
      no_zero part.id is.some_id,
      length_again kind part.id (length part.bytes) (part.bytes ++ rest) is.count,
      drop_at (header_text kind part.id (length part.bytes)) (part.bytes ++ rest) (header_bytes kind) len,
      body,
      fresh,
      take_at part.bytes rest (length part.bytes) refl,
      drop_at part.bytes rest (length part.bytes) refl,
    ) refl

part_again : (kind : Header) (at : ℕ) (earlier : List Part) (part : Part) (rest : List ℕ) → IsPart kind part
    → has_id part.id earlier ≡ false → part_at kind at earlier (part_text kind part ++ rest) ≡ Ok (part, rest)
part_again kind at earlier part rest is fresh = ap (part_at kind at earlier) (begun kind part rest)
    ∙ part_begun kind at earlier part rest is fresh

-- a part isn't all zeros
not_zeros : (kind : Header) (part : Part) (rest : List ℕ) → IsPart kind part
    → is_zeros (part_text kind part ++ rest) ≡ false
not_zeros kind part rest is =
    elim (two (is_zeros (part_text kind part ++ rest))) [
      | inl zeros ↦
          let none =
          id_of_zeros kind (header_text kind part.id (length part.bytes) ++ (part.bytes ++ rest))
          (ap is_zeros (sym (begun kind part rest)) ∙ zeros) in
          let same = id_again kind part.id (length part.bytes) (part.bytes ++ rest) is.id in
          let e : part.id ≡ 0 = sym same ∙ none in
          absurd (omega (arith, is.some_id))
      | inr left ↦ left
    ]

-- a part whose id differs from those before it
is_fresh : (earlier : List Part) (part : Part) (more : List Part)
    → AllPairs (λ p q. p.id ≢ q.id) (earlier ++ part ∷ more) → has_id part.id earlier ≡ false
is_fresh earlier part more apart =
    list_any_none (λ p. nat_eq p.id part.id) earlier (λ k d lt.
    let at : get_or (earlier ++ part ∷ more) k d ≡ get_or earlier k d =
    get_or_append_left earlier (part ∷ more) d k lt in
    let here : get_or (earlier ++ part ∷ more) (length earlier) d ≡ part =
    rw (
      get_or-append_right earlier (part ∷ more) (length earlier) (length earlier) d refl (omega arith),
      zero_left (length earlier),
    ) refl in
    let ne = apart k (length earlier) d lt (omega (arith, length-append earlier (part ∷ more))) in
    differ (get_or earlier k d).id part.id
    (λ e. ne (ap (λ (p : Part). p.id) at ∙ e ∙ sym (ap (λ (p : Part). p.id) here))))

-- reading passes over parts that stand, whatever follows them
pub parts_passed : (kind : Header) (total steps : ℕ) (earlier more : List Part) (rest : List ℕ)
    → All (IsPart kind) more → AllPairs (λ p q. p.id ≢ q.id) (earlier ++ more) → length more ≤ steps
    → parts_after kind total steps earlier (parts_text kind more ++ rest)
    ≡ parts_after kind total (steps - length more) (earlier ++ more) rest
parts_passed kind total steps earlier [] rest are apart few =
    let same : steps - 0 ≡ steps = omega arith in
    rw (same, append-nil earlier) refl
parts_passed kind total zero earlier (part ∷ more) rest are apart few = absurd (omega arith)
parts_passed kind total (suc steps) earlier (part ∷ more) rest are apart few =
    let is = All-head (IsPart kind) part more are in
    let split : parts_text kind (part ∷ more) ++ rest ≡ part_text kind part
    ++ (parts_text kind more ++ rest) = append_assoc (part_text kind part) (parts_text kind more) rest in
    let grouped : (earlier ++ part ∷ []) ++ more ≡ earlier ++ part ∷ more =
    append_assoc earlier (part ∷ []) more in
    let one : suc steps - length (part ∷ more) ≡ steps - length more = omega arith in
    let next =
    parts_passed kind total steps (earlier ++ part ∷ []) more rest (All-tail (IsPart kind) part more are)
    (subst (AllPairs (λ (p : Part) (q : Part). p.id ≢ q.id)) (sym grouped) apart) (omega arith) in
    ap (parts_after kind total (suc steps) earlier) split
    ∙ rw (
      not_zeros kind part (parts_text kind more ++ rest) is,
      part_again kind (total - length (part_text kind part ++ (parts_text kind more ++ rest))) earlier part
          (parts_text kind more ++ rest) is (is_fresh earlier part more apart),
    ) next
    ∙ ap (λ (ps : List Part). parts_after kind total (steps - length more) ps rest) grouped
    ∙ ap (λ (n : ℕ). parts_after kind total n (earlier ++ part ∷ more) rest) (sym one)

-- zeros end the reading
at_zeros : (kind : Header) (total steps : ℕ) (earlier : List Part) (count : ℕ)
    → parts_after kind total steps earlier (replicate count 0) ≡ Ok earlier
at_zeros kind total zero earlier count = refl
at_zeros kind total (suc steps) earlier count = rw (is_zeros-replicate count) refl

-- there are no more parts than bytes
pub count_le : (kind : Header) (parts : List Part) → kind ≢ NoHeader
    → length parts ≤ length (parts_text kind parts)
count_le kind [] under = omega arith
count_le kind (part ∷ more) under =
    let h = count_le kind more under in
    omega (
      arith,
      h,
      some_bytes kind under,
      header_len kind part.id (length part.bytes),
      length-append (part_text kind part) (parts_text kind more),
      length-append (header_text kind part.id (length part.bytes)) part.bytes,
    )

-- what is written is read
pub container_again : (kind : Header) (parts : List Part) (size : ℕ) → Fits kind parts size
    → parts_of kind (container_text kind parts size) ≡ Ok parts
container_again kind parts size fits =
    parts_passed kind (length (container_text kind parts size))
    (length (container_text kind parts size)) [] parts
    (replicate (size - length (parts_text kind parts)) 0)
    (λ k d lt. record { some_id = fits.some_id k d lt; id = fits.ids k d lt; count = fits.lengths k d lt })
    fits.distinct
    (omega (
      arith,
      count_le kind parts fits.under_headers,
      length-append (parts_text kind parts) (replicate (size - length (parts_text kind parts)) 0),
    ))
    ∙ at_zeros kind (length (container_text kind parts size)) _ parts (size - length (parts_text kind parts))
