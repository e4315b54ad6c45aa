-- The columns of a record, in order, each by its rule; a column that breaks its rule answers its number.
use Rattle.std.specs.Prelude.{ℕ, ◌-◌, ◌+◌, ◌==◌, ◌∷◌, List, [], length, slice_index_or, Bool, false, Option, Some, None, Result, Ok, Err, if◌then◌else◌}
use Rattle.std.specs.Str.{bytes_eq}
use Rattle.std.specs.Cmp.Lexicographic.{pointwise}
use Rattle.pack_model.specs.Name.{is_name}
use Rattle.csv_table.specs.Decimal.{decimal_of}

infixl 10 ◌>>=◌
-- one step of reading, and then the next
abbrev pub ◌>>=◌ : {A B E : Type 0} → Result A E → (A → Result B E) → Result B E
(Ok x) >>= f = f x
(Err e) >>= f = Err e

-- what was found, or else this error
abbrev pub or_error : {A E : Type 0} → E → Option A → Result A E
or_error e None = Err e
or_error e (Some x) = Ok x

-- the record has these fields
abbrev pub is_row : List (List ℕ) → List (List ℕ) → Bool
is_row = pointwise bytes_eq

-- the first of the records has these fields
abbrev pub begins_with : List (List ℕ) → List (List (List ℕ)) → Bool
begins_with names [] = false
begins_with names (row ∷ rows) = is_row row names

-- the field in a column, counted from 1
abbrev pub field_in : ℕ → List (List ℕ) → List ℕ
field_in k fields = slice_index_or fields (k - 1) []

-- column 0 stands for the count of fields
abbrev pub count_in : ℕ → List (List ℕ) → Result ℕ ℕ
count_in n fields = if length fields == n then Ok n else Err 0

-- a name
abbrev pub name_in : ℕ → List (List ℕ) → Result (List ℕ) ℕ
name_in k fields = if is_name (field_in k fields) then Ok (field_in k fields) else Err k

-- a decimal from low to high
abbrev pub number_in : ℕ → ℕ → ℕ → List (List ℕ) → Result ℕ ℕ
number_in low high k fields = or_error k (decimal_of low high (field_in k fields))

-- empty, or a decimal from low to high
abbrev pub optional_in : ℕ → ℕ → ℕ → List (List ℕ) → Result (Option ℕ) ℕ
optional_in low high k fields =
    if length (field_in k fields) == 0 then Ok None else number_in low high k fields >>= λ n. Ok (Some n)

-- a record in row n, where a column that breaks its rule is this fault
abbrev pub in_row : {A E : Type 0} → (ℕ → ℕ → E) → ℕ → Result A ℕ → Result A E
in_row bad n (Ok x) = Ok x
in_row bad n (Err k) = Err (bad n k)

-- what the records give, each by this reading, from row n on; the first row that fails is the fault
abbrev pub rows_from : {A E : Type 0} → (ℕ → ℕ → E) → (List (List ℕ) → Result A ℕ) → ℕ → List (List (List ℕ))
    → Result (List A) E
rows_from bad read n [] = Ok []
rows_from bad read n (row ∷ rows) = do
  x ← in_row bad n (read row)
  xs ← rows_from bad read (n + 1) rows
  Ok (x ∷ xs)
