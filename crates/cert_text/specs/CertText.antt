-- The text of a certificate (CERT), the project's own format, and why a text is that of none.
use Rattle.std.specs.Prelude.{◌≡◌, ◌≢◌, ◌⊎◌, ◌≤◌, ℕ, ◌+◌, ◌-◌, ◌==◌, List, [], ◌∷◌, ◌++◌, length, take, Option, Some, None, Result, Ok, Err}
use Rattle.std.specs.List.{AllByRecursion, flat_map, slice_split}
use Rattle.cert_text.specs.declared.fault.CertFault.{CertFault}
use Rattle.cert_text.specs.declared.fault.CertFault.TheVariants as fault
use Rattle.cert_text.specs.Trees.{Marked}
use Rattle.cert_text.specs.Parts.{CertOf, CertParts, CertStands, unmark_cert}
use Rattle.cert_text.specs.Lines.{LineInRange, cert_lines, ended, text_of}

-- a certificate with marks that has a text: its trees stand, and the numbers of its lines are in range
pub record InRange (c : CertOf Marked) : Type 0 where
  pub stands : CertStands c
  pub numbers : AllByRecursion LineInRange (cert_lines c)

-- the bytes are the lines of the certificate with some marks
pub record CertText (bytes : List ℕ) (cert : CertParts) : Type 0 where
  pub marked : CertOf Marked
  pub in_range : InRange marked
  pub unmarked : unmark_cert marked ≡ cert
  pub text : text_of (cert_lines marked) ≡ bytes

-- the text of some certificate begins with the bytes
pub record BeginsText (bytes : List ℕ) : Type 0 where
  pub marked : CertOf Marked
  pub rest : List ℕ
  pub in_range : InRange marked
  pub text : text_of (cert_lines marked) ≡ bytes ++ rest

-- what stands before, between and after the bytes of this value
unfoldable pub parts : ℕ → List ℕ → List (List ℕ)
parts byte bytes = slice_split (λ b. b == byte) bytes

-- all parts but the last
abbrev pub front : List (List ℕ) → List (List ℕ)
front [] = []
front (x ∷ []) = []
front (x ∷ y ∷ xs) = x ∷ front (y ∷ xs)

-- the last part
abbrev pub last : List (List ℕ) → List ℕ
last [] = []
last (x ∷ []) = x
last (x ∷ y ∷ xs) = last (y ∷ xs)

-- the lines that LF ends
abbrev pub ended_lines : List ℕ → List (List ℕ)
ended_lines bytes = front (parts 10 bytes)

-- the bytes after the last LF
abbrev pub unfinished : List ℕ → List ℕ
unfinished bytes = last (parts 10 bytes)

-- lines with LF
abbrev pub with_ends : List (List ℕ) → List ℕ
with_ends lines = flat_map ended lines

-- this line, counted from 1, is the first that no certificate has after those before it; or bytes follow `end`
-- there
pub record IsBadLine (bytes : List ℕ) (n : ℕ) : Type 0 where
  pub some : 1 ≤ n
  pub before : BeginsText (with_ends (take (n - 1) (ended_lines bytes)))
  pub bad :
      ((n ≤ length (ended_lines bytes)) × (BeginsText (with_ends (take n (ended_lines bytes))) → ⊥))
      ⊎ ((n ≡ length (ended_lines bytes) + 1)
      × ((cert : CertParts) × CertText (with_ends (ended_lines bytes)) cert)
      × (unfinished bytes ≢ []))

-- all lines can stand, and the end isn't among them
pub record IsCut (bytes : List ℕ) : Type 0 where
  pub stand : BeginsText (with_ends (ended_lines bytes))
  pub not_whole : (cert : CertParts) → CertText (with_ends (ended_lines bytes)) cert → ⊥

-- why a text has no certificate: this line, counted from 1, is bad, or the text is cut
pub data CertRefusal : Type 0 where
  bad_line : ℕ → CertRefusal
  cut : CertRefusal

-- what a reader answers holds of the bytes: the certificate of the text, or why it has none
abbrev pub IsAnswer : List ℕ → Result CertParts CertRefusal → Type 0
IsAnswer bytes (Ok cert) = CertText bytes cert
IsAnswer bytes (Err (bad_line n)) = IsBadLine bytes n
IsAnswer bytes (Err cut) = IsCut bytes

-- what a fault of the reader says of the text
abbrev pub cert_refusal : CertFault → Option CertRefusal
cert_refusal (fault.BadLine n) = Some (bad_line n)
cert_refusal fault.Cut = Some cut
cert_refusal fault.Memory = None
