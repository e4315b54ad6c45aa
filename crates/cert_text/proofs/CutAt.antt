-- Bytes cut at the first byte of a value.
use Rattle.std.proofs.Common.{◌≡◌, ◌<◌, ℕ, ◌+◌, ◌==◌, List, [], ◌∷◌, length, take, drop, Some, None, arith, sym, inl, inr}
use Rattle.std.specs.List.{position, position_or_len}
use Rattle.std.proofs.lemmas.Bool.{cases_lt, lt-ltb, ltb-true}
use Rattle.std.proofs.lemmas.List.Splits.{length-slice_split, slice_split_first, slice_split_none}
use Rattle.std.proofs.lemmas.List.Sums.{fails_before_first}
use Rattle.std.proofs.lemmas.Option.{cond_some, none-some}
use Rattle.cert_text.specs.CertText.{parts}

-- where no byte has the value, they are one part
pub cut_none : (byte : ℕ) (bytes : List ℕ) → position (λ b. b == byte) bytes ≡ None → parts byte bytes ≡ bytes ∷ []
unfolding parts
cut_none byte bytes e =
    slice_split_none (λ b. b == byte) bytes (λ k d lt. fails_before_first (λ b. b == byte) bytes k d (elim (cases_lt (position_or_len (λ b. b == byte) bytes) (length bytes)) [
      | inl found ↦ absurd (none-some (position_or_len (λ b. b == byte) bytes) (sym (rw (lt-ltb _ _ found) at e)))
      | inr past ↦ omega arith
    ]))

-- else the first part ends at the first that has
pub cut_some : (byte i : ℕ) (bytes : List ℕ) → position (λ b. b == byte) bytes ≡ Some i → parts byte bytes ≡ take i bytes ∷ parts byte (drop (i + 1) bytes)
unfolding parts
cut_some byte i bytes e =
    let found = cond_some _ _ _ e in
    let first = slice_split_first (λ b. b == byte) bytes 0 (ltb-true _ _ found.0) in
    rw found.1 at first

-- there is a part at least
pub parts_some : (byte : ℕ) (bytes : List ℕ) → 0 < length (parts byte bytes)
unfolding parts
parts_some byte bytes = omega (arith, length-slice_split (λ b. b == byte) bytes)
