-- What a folder in memory holds and counts.
use Rattle.std.specs.Prelude.{◌≡◌, ◌-◌, ◌^◌, ℕ, List, [], Option, None, Some}
use Rattle.pack_base.specs.Failures.{IsNextListed, IsNextCall}
use Rattle.pack_base.specs.Held.{held_at}
use Rattle.pack_base.specs.Outside.{Files}
use Rattle.pack_base.specs.declared.mem_folder.MemFolder.{MemFolder}

-- its files, which it tells
abbrev pub files_of : MemFolder → Files
files_of folder = Some (held_at folder.files)

abbrev pub read_faults_of : MemFolder → List ℕ → ℕ
read_faults_of folder name = folder.read_faults

abbrev pub write_faults_of : MemFolder → List ℕ → ℕ
write_faults_of folder name = folder.write_faults

abbrev pub given_by : MemFolder → List ℕ → ℕ
given_by folder name = folder.given

-- its count of refused growths
abbrev pub refused_of : MemFolder → ℕ
refused_of folder = folder.refused

-- the numbers of the calls that are to fail
abbrev pub listed_of : MemFolder → List ℕ
listed_of folder = folder.failures.numbers.items

-- the number from which all its calls are to fail, where there is one
abbrev pub from_of : MemFolder → Option ℕ
from_of folder = folder.failures.from

-- how many bytes a read gives at most
abbrev pub most_of : MemFolder → ℕ
most_of folder = folder.most

-- its next call is to fail
abbrev pub FailsNext : MemFolder → Type 0
FailsNext folder = IsNextListed folder.failures

-- a call of it was made, the same calls are to fail, and reads are as short as before
pub record CallMade (old new : MemFolder) : Type 0 where
  pub call : IsNextCall old.failures new.failures
  pub most : new.most ≡ old.most

-- the same calls are to fail, and reads are as short as before
pub record SameSettings (old new : MemFolder) : Type 0 where
  pub listed : listed_of new ≡ listed_of old
  pub from : from_of new ≡ from_of old
  pub most : most_of new ≡ most_of old

-- no call of it was made, and no count changed
pub record SameCounts (old new : MemFolder) : Type 0 where
  pub made : new.failures.made ≡ old.failures.made
  pub read_faults : new.read_faults ≡ old.read_faults
  pub write_faults : new.write_faults ≡ old.write_faults
  pub given : new.given ≡ old.given
  pub refused : new.refused ≡ old.refused

-- it has no files, no calls were made or are to fail, reads are as long as there are bytes, and its counts are 0
pub record IsNewFolder (folder : MemFolder) : Type 0 where
  pub files : (name : List ℕ) → held_at folder.files name ≡ None
  pub listed : folder.failures.numbers.items ≡ []
  pub from : folder.failures.from ≡ None
  pub most : folder.most ≡ 2 ^ 64 - 1
  pub made : folder.failures.made ≡ 0
  pub read_faults : folder.read_faults ≡ 0
  pub write_faults : folder.write_faults ≡ 0
  pub given : folder.given ≡ 0
  pub refused : folder.refused ≡ 0
