-- The text of records.
use Rattle.std.specs.Prelude.{◌≡◌, ℕ, List, [], ◌∷◌, ◌++◌, Bool, false, Option, Some, None, decimal, unwrap_or, if◌then◌else◌}
use Rattle.csv.specs.Writing.{default_writer, fields_written, has_written, row_text, text_written, writer_setup}
use Rattle.csv.specs.declared.writer.Writer.{Writer}

-- the records, one after the other, each as `csv` writes it and ended by LF
abbrev pub rows_text : List (List (List ℕ)) → List ℕ
rows_text [] = []
rows_text (row ∷ rows) = row_text default_writer row ++ rows_text rows

-- what a writer of records holds: the text of the records that were ended, and the fields of the one at hand
pub record Written : Type 0 where
  pub text : List ℕ
  pub row : List (List ℕ)

-- a written number, or nothing
abbrev pub optional_text : Option ℕ → List ℕ
optional_text None = []
optional_text (Some n) = decimal n

-- the text that a writer holds, if it has not failed
abbrev pub text_in : {W : Type 0} → (W → Option (List ℕ)) → Bool → Writer W → List ℕ
text_in contents failed w = if failed then [] else unwrap_or (text_written contents w) []

-- a writer with the format's settings that stands between two records
pub record IsFresh {W : Type 0} (w : Writer W) : Type 0 where
  pub setup : writer_setup w ≡ default_writer
  pub fields : fields_written w ≡ 0
  pub wrote : has_written w ≡ false
