-- The text of a matrix (MATRIX), the project's own format: CSV as RFC 4180 has it, read by `csv`'s rules.
use Rattle.std.specs.Prelude.{◌≡◌, ℕ, ◌∷◌, [], List, codes, decimal, drop, map, Option, Some, None, Result, Ok, Err, if◌then◌else◌}
use Rattle.std.specs.Str.{bytes_eq}
use Rattle.fd_length.specs.Size.{is_size}
use Rattle.csv_table.specs.Columns.{◌>>=◌, begins_with, count_in, field_in, name_in, number_in, optional_in, rows_from}
use Rattle.csv_table.specs.Rows.{rows_of}
use Rattle.csv_table.specs.Writing.{optional_text, rows_text}
use Rattle.container_pdu.specs.declared.header.Header.{Header}
use Rattle.container_pdu.specs.declared.header.Header.TheVariants.{NoHeader, Short, Long}
use Rattle.matrix_rows.specs.declared.matrix.MatrixRow.{MatrixRow}
use Rattle.matrix_rows.specs.declared.text.MatrixFault.{MatrixFault}
use Rattle.matrix_rows.specs.declared.text.MatrixFault.TheVariants as fault

-- why a text has no matrix: its first row is not the header, or a row's column breaks its rule
pub data MatrixRefusal : Type 0 where
  bad_header : MatrixRefusal
  bad_row : ℕ → ℕ → MatrixRefusal

-- the header, which is row 1
abbrev pub matrix_header : List (List ℕ)
matrix_header =
    codes "id" ∷ codes "sender" ∷ codes "size" ∷ codes "ticks" ∷ codes "header"
    ∷ codes "pdu" ∷ codes "at" ∷ codes "signal" ∷ codes "start" ∷ codes "bits" ∷ []

-- a column with a data length of ISO 11898-1's list
abbrev pub size_in : ℕ → List (List ℕ) → Result ℕ ℕ
size_in k fields = number_in 0 64 k fields >>= λ size. if is_size size then Ok size else Err k

-- the words for the kinds of header
abbrev pub header_text : Header → List ℕ
header_text NoHeader = codes "none"
header_text Short = codes "short"
header_text Long = codes "long"

-- a column with the kind of header
abbrev pub header_in : ℕ → List (List ℕ) → Result Header ℕ
header_in k fields =
    if bytes_eq (field_in k fields) (header_text NoHeader) then Ok NoHeader
    else if bytes_eq (field_in k fields) (header_text Short) then Ok Short
    else if bytes_eq (field_in k fields) (header_text Long) then Ok Long else Err k

-- the row of a record, or the least column that breaks its rule; column 0 is the count of fields
abbrev pub row_of : List (List ℕ) → Result MatrixRow ℕ
row_of fields = do
  count ← count_in 10 fields
  id ← number_in 0 2047 1 fields
  sender ← name_in 2 fields
  size ← size_in 3 fields
  ticks ← number_in 0 9999999999 4 fields
  header ← header_in 5 fields
  pdu ← optional_in 1 4294967295 6 fields
  at ← number_in 0 63 7 fields
  signal ← name_in 8 fields
  start ← number_in 0 511 9 fields
  bits ← number_in 1 512 10 fields
  Ok (record {
    id = id;
    sender = sender;
    size = size;
    ticks = ticks;
    header = header;
    pdu = pdu;
    at = at;
    signal = signal;
    start = start;
    bits = bits;
  })

-- the rows under the header
abbrev pub matrix_in : List (List (List ℕ)) → Result (List MatrixRow) MatrixRefusal
matrix_in rows =
    if begins_with matrix_header rows then rows_from bad_row row_of 2 (drop 1 rows) else Err bad_header

-- the matrix of a text, or its first refusal
abbrev pub matrix_of_text : List ℕ → Result (List MatrixRow) MatrixRefusal
matrix_of_text text = matrix_in (rows_of text)

-- the text is one of this matrix
abbrev pub MatrixText : List ℕ → List MatrixRow → Type 0
MatrixText text matrix = matrix_of_text text ≡ Ok matrix

-- what a fault of the reader says of the text
abbrev pub matrix_refusal : MatrixFault → Option MatrixRefusal
matrix_refusal fault.BadHeader = Some bad_header
matrix_refusal (fault.BadRow n k) = Some (bad_row n k)
matrix_refusal fault.Memory = None

-- the fields of a row as they are written
abbrev pub row_fields : MatrixRow → List (List ℕ)
row_fields row =
    decimal row.id ∷ row.sender ∷ decimal row.size ∷ decimal row.ticks ∷ header_text row.header
    ∷ optional_text row.pdu ∷ decimal row.at ∷ row.signal ∷ decimal row.start ∷ decimal row.bits ∷ []

-- the written fields of a row are read as the row
pub record ReadsBack (written : MatrixRow) : Type 0 where
  pub row : row_of (row_fields written) ≡ Ok written

-- the text that is written for a matrix
abbrev pub matrix_text : List MatrixRow → List ℕ
matrix_text rows = rows_text (matrix_header ∷ map row_fields rows)
