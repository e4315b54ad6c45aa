-- What a call did to a folder of which it only reads, and which counts rose.
use Rattle.std.specs.Prelude.{◌≡◌, ◌⊎◌, ℕ, List, [], ◌∷◌}
use Rattle.pack_base.specs.Counts.{Rose}
use Rattle.pack_base.specs.Outside.{Files, Later}
use Rattle.canpack_top.specs.Command.{Names}

-- the files are as before, and no count fell
pub record ReadsOnly {F : Type 0} (files : F → Files) (read_faults write_faults given : F → List ℕ → ℕ) (old new : F) : Type 0 where
  pub same : files new ≡ files old
  pub later : Later read_faults write_faults given old new

-- the count of a name rose
abbrev pub FaultAt : (List ℕ → ℕ) → (List ℕ → ℕ) → List ℕ → Type 0
FaultAt before now name = Rose (before name) (now name)

-- the count of one of these names rose
abbrev pub SomeRose : List (List ℕ) → (List ℕ → ℕ) → (List ℕ → ℕ) → Type 0
SomeRose [] before now = ⊥
SomeRose (name ∷ names) before now = FaultAt before now name ⊎ SomeRose names before now

-- the names of the two files of a problem
abbrev pub problem_names : Names → List (List ℕ)
problem_names names = names.network ∷ names.signals ∷ []

-- the names of the four files of `check`
abbrev pub check_names : Names → List (List ℕ)
check_names names = names.network ∷ names.signals ∷ names.matrix ∷ names.cert ∷ []

-- the names of the two files that a planned matrix and its certificate are written to
abbrev pub written_names : Names → List (List ℕ)
written_names names = names.matrix ∷ names.cert ∷ []
