-- A plain tree as a list, by which contracts tell certificates apart.
use Rattle.std.specs.Prelude.{◌≡◌, ℕ, zero, suc, List, [], ◌∷◌}
use Rattle.std.specs.Coded.{Coded, code_by, coded_list, coded_ℕ, coded×}
use Rattle.std.proofs.Common.{refl, ap}
use Rattle.response_test.specs.declared.evidence.Evidence.{Evidence}
use Rattle.response_test.specs.contracts.evidence.Evidence as evidence
use Rattle.cert_text.specs.Trees.{Plain, Plains, bound, fail, inner, left, more, none}

-- an entry: what begins or ends there, and the evidence of a fail leaf
abbrev pub Entry : Type 0
Entry = ℕ × List (ℕ × Evidence)

-- the entries of a tree, and then these
abbrev mutual
  pub entries : Plain → List Entry → List Entry
  entries (inner ts) rest = (0, []) ∷ entries_all ts ((1, []) ∷ rest)
  entries bound rest = (2, []) ∷ rest
  entries left rest = (3, []) ∷ rest
  entries (fail es) rest = (4, es) ∷ rest

  pub entries_all : Plains → List Entry → List Entry
  entries_all none rest = rest
  entries_all (more t ts) rest = entries t (entries_all ts rest)

-- a tree before the first row of trees
abbrev pub before : Plain → List Plains → List Plains
before t [] = []
before t (ts ∷ rows) = more t ts ∷ rows

-- the first row is that of an inner node
abbrev pub closed : List Plains → List Plains
closed [] = []
closed (ts ∷ rows) = before (inner ts) rows

-- an entry before rows of trees
abbrev pub with_entry : ℕ → List (ℕ × Evidence) → List Plains → List Plains
with_entry zero es rows = closed rows
with_entry (suc zero) es rows = none ∷ rows
with_entry (suc (suc zero)) es rows = before bound rows
with_entry (suc (suc (suc zero))) es rows = before left rows
with_entry (suc (suc (suc (suc n)))) es rows = before (fail es) rows

-- the rows of trees that entries make
abbrev pub rows_of : List Entry → List Plains
rows_of [] = none ∷ []
rows_of (e ∷ es) = with_entry e.0 e.1 (rows_of es)

-- the first tree
abbrev pub first_of : List Plains → Plain
first_of [] = bound
first_of (none ∷ rows) = bound
first_of (more t ts ∷ rows) = t

mutual
  -- the entries of a tree give it back, before the rows that follow
  pub rows-entries : (t : Plain) (rest : List Entry) (ts : Plains) (rows : List Plains)
      → rows_of rest ≡ ts ∷ rows
      → rows_of (entries t rest) ≡ more t ts ∷ rows
  rows-entries (inner us) rest ts rows e =
      ap closed (rows-entries_all us ((1, []) ∷ rest) (ts ∷ rows) (ap (λ rs. none ∷ rs) e))
  rows-entries bound rest ts rows e = ap (before bound) e
  rows-entries left rest ts rows e = ap (before left) e
  rows-entries (fail es) rest ts rows e = ap (before (fail es)) e

  -- the entries of trees give them back
  pub rows-entries_all : (ts : Plains) (rest : List Entry) (rows : List Plains)
      → rows_of rest ≡ none ∷ rows
      → rows_of (entries_all ts rest) ≡ ts ∷ rows
  rows-entries_all none rest rows e = e
  rows-entries_all (more t ts) rest rows e =
      rows-entries t (entries_all ts rest) ts rows (rows-entries_all ts rest rows e)

-- a plain tree is stored as its entries
abbrev pub plain_code : Coded Plain
plain_code =
    code_by (List Entry) (coded_list (coded× coded_ℕ (coded_list (coded× coded_ℕ evidence.the_row.coded))))
    (λ t. entries t []) (λ es. first_of (rows_of es)) (λ t. ap first_of (rows-entries t [] none [] refl))
