-- The records of a text of CSV.
use Rattle.std.specs.Prelude.{ℕ, List, [], ◌∷◌, ◌≡◌, Bool, true, false}
use Rattle.csv.specs.Reading.{default_config, records, strip_bom}

-- the records of a text, each a list of fields; one byte order mark at the front is passed over
abbrev pub rows_of : List ℕ → List (List (List ℕ))
rows_of text = records default_config (strip_bom text)

-- the first of the old records was taken and the others stay, or there was none
abbrev pub Takes : List (List (List ℕ)) → List (List (List ℕ)) → Bool → List (List ℕ) → Type 0
Takes old new true row = old ≡ row ∷ new
Takes old new false row = (old ≡ []) × (new ≡ [])
