-- What the calls of a folder and of a sink do to the files that are told and to what was said.
use Rattle.std.specs.Prelude.{◌≡◌, ◌≢◌, ◌⊎◌, ℕ, ◌≤◌, List, [], ◌++◌, length, take, drop, Option, None, Some, IsSome, unwrap_or, option_map}

-- The files by name, where they are told.
abbrev pub Files : Type 0
Files = Option (List ℕ → Option (List ℕ))

-- the file of a name, where it is told and there
abbrev pub file_at : Files → List ℕ → Option (List ℕ)
file_at None name = None
file_at (Some files) name = files name

-- the bytes of a name's file; one that is missing counts as empty
abbrev pub bytes_at : Files → List ℕ → List ℕ
bytes_at files name = unwrap_or (file_at files name) []

-- a read of n bytes at a place of a file filled the front of the buffer with them, and came to nothing only
-- for an empty buffer or at the file's end
pub record ReadsAt (file : List ℕ) (at n : ℕ) (buffer : List ℕ) : Type 0 where
  pub bytes : take n buffer ≡ take n (drop at file)
  pub inside : n ≤ length (drop at file)
  pub ends : n ≡ 0 → (length buffer ≡ 0) ⊎ (length file ≤ at)

-- A file before a call and after it.
abbrev pub Change : Type 1
Change = Option (List ℕ) → Option (List ℕ) → Type 0

-- the file holds these bytes
abbrev pub Holds : List ℕ → Option (List ℕ) → Option (List ℕ) → Type 0
Holds bytes before now = now ≡ Some bytes

-- these bytes stand behind what the file held
abbrev pub Appended : List ℕ → Option (List ℕ) → Option (List ℕ) → Type 0
Appended bytes before now = now ≡ Some (unwrap_or before [] ++ bytes)

-- the file is as before, or empty
abbrev pub PartMade : Option (List ℕ) → Option (List ℕ) → Type 0
PartMade before now = (now ≡ before) ⊎ Holds [] before now

-- the file is as before, or a front of these bytes stands behind what it held
abbrev pub PartAppended : List ℕ → Option (List ℕ) → Option (List ℕ) → Type 0
PartAppended bytes before now = (now ≡ before) ⊎ ((k : ℕ) × Appended (take k bytes) before now)

-- Files that were told still are; the one of this name changed so, and all others are as before.
pub record Changes (name : List ℕ) (change : Option (List ℕ) → Option (List ℕ) → Type 0) (before now : Files) : Type 0 where
  pub told : IsSome before → IsSome now
  pub at_name : IsSome before → change (file_at before name) (file_at now name)
  pub others : IsSome before → (other : List ℕ) → other ≢ name → file_at now other ≡ file_at before other

-- No count of a folder fell.
pub record Later {F : Type 0} (read_faults write_faults given : F → List ℕ → ℕ) (old new : F) : Type 0 where
  pub read : (name : List ℕ) → read_faults old name ≤ read_faults new name
  pub write : (name : List ℕ) → write_faults old name ≤ write_faults new name
  pub gave : (name : List ℕ) → given old name ≤ given new name

-- No read and no write of any name failed.
pub record SameFaults {F : Type 0} (read_faults write_faults : F → List ℕ → ℕ) (old new : F) : Type 0 where
  pub read : (name : List ℕ) → read_faults new name ≡ read_faults old name
  pub write : (name : List ℕ) → write_faults new name ≡ write_faults old name

-- what was said, where it is told, with these bytes behind it
abbrev pub and_said : Option (List ℕ) → List ℕ → Option (List ℕ)
and_said said bytes = option_map (λ front. front ++ bytes) said

-- what was said, where it is told, with a front of these bytes behind it
abbrev pub SaidPart : List ℕ → Option (List ℕ) → Option (List ℕ) → Type 0
SaidPart bytes before now = (k : ℕ) × (now ≡ and_said before (take k bytes))
