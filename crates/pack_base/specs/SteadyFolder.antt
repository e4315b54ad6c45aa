-- What a steady folder holds and counts.
use Rattle.std.specs.Prelude.{◌≡◌, ℕ, List, [], None, Some, unwrap_or}
use Rattle.pack_base.specs.Held.{held_at}
use Rattle.pack_base.specs.Outside.{Files}
use Rattle.pack_base.specs.declared.steady_folder.SteadyFolder.{SteadyFolder}

-- its files, which it tells; a name that was never put is an empty file
abbrev pub files_of : SteadyFolder → Files
files_of folder = Some (λ name. Some (unwrap_or (held_at folder.files name) []))

-- a read never fails
abbrev pub read_faults_of : SteadyFolder → List ℕ → ℕ
read_faults_of folder name = 0

abbrev pub write_faults_of : SteadyFolder → List ℕ → ℕ
write_faults_of folder name = folder.write_faults

abbrev pub given_by : SteadyFolder → List ℕ → ℕ
given_by folder name = folder.given

-- all files are empty, and its counts are 0
pub record IsNewFolder (folder : SteadyFolder) : Type 0 where
  pub files : (name : List ℕ) → held_at folder.files name ≡ None
  pub write_faults : folder.write_faults ≡ 0
  pub given : folder.given ≡ 0
