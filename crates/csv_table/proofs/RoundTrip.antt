-- What is written is read back, record by record.
use Rattle.std.proofs.Common.{◌≡◌, ◌<◌, ℕ, ◌+◌, ◌==◌, add-one, drop, drop-cons, get_or, length, Bool, true, false, cond, List, [], ◌∷◌, ◌++◌, map, Some, refl, sym, ap, ◌∙◌, append_assoc}
use Rattle.csv.specs.Machine.{next_record}
use Rattle.csv.specs.Reading.{records_from, strip_bom}
use Rattle.csv.specs.Writing.{default_writer, fields_text, needs_quotes, quoted, read_back, row_text}
use Rattle.csv.specs.declared.parser.State.TheVariants as st
use Rattle.csv.proofs.RoundTrip.{read-write}
use Rattle.csv_table.specs.Inside.{records_left}
use Rattle.csv_table.specs.Rows.{rows_of}
use Rattle.csv_table.specs.Writing.{rows_text}
use Rattle.csv_table.proofs.Records.{rows_first}

-- the records of written records
rows_back : (rows : List (List (List ℕ)))
    → records_left st.StartRecord (Some (rows_text rows)) ≡ map read_back rows
unfolding records_from next_record
rows_back [] = refl
rows_back (row ∷ rows) =
    let first =
    rows_first st.StartRecord (rows_text (row ∷ rows))
    (read_back row, st.StartRecord, rows_text rows) refl (read-write row (rows_text rows)) in
    first.0 ∙ ap (λ (others : List (List (List ℕ))). read_back row ∷ others) (rows_back rows)

-- a text that begins with another byte has no mark
no_mark : (b : ℕ) (rest : List ℕ) → (b == 0xEF) ≡ false → strip_bom (b ∷ rest) ≡ b ∷ rest
unfolding strip_bom
no_mark b [] e = refl
no_mark b (c ∷ []) e = refl
no_mark b (c ∷ d ∷ rest) e = rw e refl

-- a field with quotes or without them begins with no mark
field_mark : (quotes : Bool) (b : ℕ) (name rest : List ℕ) → (b == 0xEF) ≡ false
    → strip_bom ((cond quotes (quoted default_writer (b ∷ name)) (b ∷ name)) ++ rest)
    ≡ (cond quotes (quoted default_writer (b ∷ name)) (b ∷ name)) ++ rest
field_mark true b name rest e = no_mark 34 _ refl
field_mark false b name rest e = no_mark b (name ++ rest) e

-- a record's text, as its first field and the others
first_field : (x : List ℕ) (names : List (List ℕ)) (rest : List ℕ)
    → (tail : List ℕ) × (row_text default_writer (x ∷ names) ++ rest
    ≡ (cond (needs_quotes default_writer x) (quoted default_writer x) x) ++ tail)
first_field x names rest = (
  _,
  append_assoc ((cond (needs_quotes default_writer x) (quoted default_writer x) x)
      ++ fields_text default_writer names) _ rest
      ∙ append_assoc (cond (needs_quotes default_writer x) (quoted default_writer x) x)
      (fields_text default_writer names) _,
)

-- a text whose first field begins with no mark
row_mark : (b : ℕ) (name : List ℕ) (names : List (List ℕ)) (rest : List ℕ) → (b == 0xEF) ≡ false
    → strip_bom (row_text default_writer ((b ∷ name) ∷ names) ++ rest)
    ≡ row_text default_writer ((b ∷ name) ∷ names) ++ rest
row_mark b name names rest e =
    let (tail, text) = first_field (b ∷ name) names rest in
    rw text (field_mark (needs_quotes default_writer (b ∷ name)) b name tail e)

-- the records of a text are those that were written
pub rows_of-rows_text : (b : ℕ) (name : List ℕ) (names : List (List ℕ)) (rows : List (List (List ℕ)))
    → (b == 0xEF) ≡ false
    → rows_of (rows_text (((b ∷ name) ∷ names) ∷ rows)) ≡ ((b ∷ name) ∷ names) ∷ map read_back rows
rows_of-rows_text b name names rows e =
    ap (λ (text : List ℕ). records_left st.StartRecord (Some text)) (row_mark b name names (rows_text rows) e)
    ∙ rows_back (((b ∷ name) ∷ names) ∷ rows)

-- records that have fields read back as they are
pub map_read_back : {A : Type 0} (f : A → List (List ℕ)) → ((x : A) → read_back (f x) ≡ f x) → (xs : List A)
    → map read_back (map f xs) ≡ map f xs
map_read_back f h [] = refl
map_read_back f h (x ∷ xs) = rw (h x, map_read_back f h xs) refl

-- one more row: the text so far and that of the rows that are left are the whole
pub text_more : {A : Type 0} (f : A → List (List ℕ)) (xs : List A) (i : ℕ) (x : A)
    (before after total : List ℕ) → i < length xs → x ≡ get_or xs i x
    → after ≡ before ++ row_text default_writer (f x) → before ++ rows_text (map f (drop i xs)) ≡ total
    → after ++ rows_text (map f (drop (i + 1) xs)) ≡ total
text_more f xs i x before after total lt at step whole =
    let split : before ++ rows_text (map f (drop i xs)) ≡ before
    ++ (row_text default_writer (f x) ++ rows_text (map f (drop (i + 1) xs))) =
    rw (add-one, drop-cons xs i x, ← at) refl in
    ap (λ (t : List ℕ). t ++ rows_text (map f (drop (i + 1) xs))) step
    ∙ append_assoc before (row_text default_writer (f x)) _ ∙ sym split ∙ whole

-- a header and rows, as they were written one after the other
pub written : (text after header start head rows : List ℕ) → text ≡ after → after ≡ header ++ rows
    → header ≡ start ++ head → start ≡ [] → text ≡ head ++ rows
written text after header start head rows a b c d = a ∙ b
    ∙ ap (λ (x : List ℕ). x ++ rows) (c ∙ ap (λ (x : List ℕ). x ++ head) d)
