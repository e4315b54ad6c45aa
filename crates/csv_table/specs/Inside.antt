-- What a reader of records has left.
use Rattle.std.specs.Prelude.{◌≡◌, ◌+◌, ℕ, Bool, true, false, List, [], length, Option, Some, None, if◌then◌else◌}
use Rattle.csv.specs.Machine.{ends_at_end}
use Rattle.csv.specs.Reading.{Ready, default_config, is_flexible, reader_config, reader_state, reader_trim, records_from, source_of}
use Rattle.csv.specs.declared.parser.State.{State}
use Rattle.csv.specs.declared.reader.Reader.{Reader}
use Rattle.csv.specs.declared.reader.Trim.TheVariants as trim

-- the records that a text has from a state of the machine on
abbrev pub records_left : State → Option (List ℕ) → List (List (List ℕ))
records_left s None = []
records_left s (Some bytes) = records_from default_config (length bytes + 1) s bytes

-- the records that a reader has left, if it has not ended
abbrev pub rows_left : {R : Type 0} → (R → Option (List ℕ)) → Bool → Reader R → List (List (List ℕ))
rows_left rem ended r = if ended then [] else records_left (reader_state r) (source_of rem r)

-- a reader with the format's settings that stands between two records of known bytes
pub record IsOpen {R : Type 0} (rem : R → Option (List ℕ)) (r : Reader R) : Type 0 where
  pub config : reader_config r ≡ default_config
  pub trim : reader_trim r ≡ trim.None
  pub flexible : is_flexible r ≡ true
  pub ready : Ready r
  pub between : ends_at_end (reader_state r) ≡ false
  pub known : (bytes : List ℕ) × (source_of rem r ≡ Some bytes)
