-- The laws of the text of a matrix: what is read is in range, and what is written is read.
use Rattle.std.proofs.Common.{◌≡◌, ◌≤◌, ◌+◌, ◌==◌, ◌∷◌, ℕ, inl, inr, rules, Bool, true, false, cond, List, [], drop, map, Option, Some, None, Result, Ok, Err, refl, ap, ◌∙◌, arith, decimal, codes}
use Rattle.std.specs.Prelude.{IfOk, IfSome, All}
use Rattle.std.specs.Option.{ForSome}
use Rattle.std.specs.List.{AllByRecursion, list_any}
use Rattle.std.proofs.lemmas.Bool.{eqb-true, or_cases}
use Rattle.std.specs.Global.{Vec}
use Rattle.std.proofs.lemmas.List.Elements.{All-from_recursion, recursion_from_All}
use Rattle.pack_model.specs.Name.{IsName}
use Rattle.fd_length.specs.Size.{IsSize, is_size, sizes}
use Rattle.csv_table.specs.Columns.{◌>>=◌, count_in, field_in, begins_with, in_row, name_in, number_in, optional_in, rows_from}
use Rattle.csv_table.specs.Gives.{Gives}
use Rattle.csv_table.specs.Rows.{rows_of}
use Rattle.csv_table.specs.Writing.{optional_text}
use Rattle.csv_table.proofs.Ranges.{Within, name_back, number_back, number_within, optional_back, optional_within}
use Rattle.csv_table.proofs.RoundTrip.{map_read_back, rows_of-rows_text}
use Rattle.matrix_rows.specs.Row.{RowInRange}
use Rattle.container_pdu.specs.declared.header.Header.{Header}
use Rattle.container_pdu.specs.declared.header.Header.TheVariants.{NoHeader, Short, Long}
use Rattle.matrix_rows.specs.declared.matrix.MatrixRow.{MatrixRow}
use Rattle.matrix_rows.specs.declared.text.MatrixFault.{MatrixFault}
use Rattle.matrix_rows.specs.MatrixText.{MatrixRefusal, ReadsBack, bad_header, bad_row, header_in, header_text, matrix_header, matrix_in, matrix_of_text, matrix_refusal, matrix_text, row_fields, row_of, size_in}

listed : (k size : ℕ) (b : Bool) → is_size size ≡ b → IfOk (cond b (Ok size) (Err k)) IsSize
listed k size true e = e
listed k size false e = tt

then_listed : (k : ℕ) (r : Result ℕ ℕ) → IfOk (r >>= λ size. cond (is_size size) (Ok size) (Err k)) IsSize
then_listed k (Ok size) = listed k size (is_size size) refl
then_listed k (Err e) = tt

pdu_low : (o : Option ℕ) → IfSome o (Within 1 4294967295) → ForSome o (λ id. 1 ≤ id)
pdu_low None h = λ x e. absurd cc
pdu_low (Some id) h = λ x e.
    let same : id ≡ x = cc in
    omega (arith, h.above, same)

-- the columns together
columns_in_range : (count id : Result ℕ ℕ) (sender : Result (List ℕ) ℕ) (size ticks : Result ℕ ℕ)
    (header : Result Header ℕ) (pdu : Result (Option ℕ) ℕ) (at : Result ℕ ℕ) (signal : Result (List ℕ) ℕ)
    (start bits : Result ℕ ℕ)
    → IfOk id (Within 0 2047) → IfOk size IsSize → IfOk ticks (Within 0 9999999999)
    → IfOk pdu (λ o. IfSome o (Within 1 4294967295)) → IfOk at (Within 0 63)
    → IfOk start (Within 0 511) → IfOk bits (Within 1 512)
    → IfOk (count >>= λ c. id >>= λ i. sender >>= λ s. size >>= λ z. ticks >>= λ t. header >>= λ h.
    pdu >>= λ p. at >>= λ a. signal >>= λ n. start >>= λ b. bits >>= λ w.
    Ok (record {
      id = i;
      sender = s;
      size = z;
      ticks = t;
      header = h;
      pdu = p;
      at = a;
      signal = n;
      start = b;
      bits = w;
    })) RowInRange
columns_in_range (Err e) id sender size ticks header pdu at signal start bits hi hz ht hp ha hb hw = tt
columns_in_range (Ok c) (Err e) sender size ticks header pdu at signal start bits hi hz ht hp ha hb hw = tt
columns_in_range (Ok c) (Ok i) (Err e) size ticks header pdu at signal start bits hi hz ht hp ha hb hw = tt
columns_in_range (Ok c) (Ok i) (Ok s) (Err e) ticks header pdu at signal start bits hi hz ht hp ha hb hw = tt
columns_in_range (Ok c) (Ok i) (Ok s) (Ok z) (Err e) header pdu at signal start bits hi hz ht hp ha hb hw = tt
columns_in_range (Ok c) (Ok i) (Ok s) (Ok z) (Ok t) (Err e) pdu at signal start bits hi hz ht hp ha hb hw = tt
columns_in_range (Ok c) (Ok i) (Ok s) (Ok z) (Ok t) (Ok h) (Err e) at signal start bits hi hz ht hp ha hb hw =
    tt
columns_in_range (Ok c) (Ok i) (Ok s) (Ok z) (Ok t) (Ok h) (Ok p)
    (Err e) signal start bits hi hz ht hp ha hb hw = tt
columns_in_range (Ok c) (Ok i) (Ok s) (Ok z) (Ok t) (Ok h) (Ok p) (Ok a)
    (Err e) start bits hi hz ht hp ha hb hw = tt
columns_in_range (Ok c) (Ok i) (Ok s) (Ok z) (Ok t) (Ok h) (Ok p) (Ok a) (Ok n)
    (Err e) bits hi hz ht hp ha hb hw = tt
columns_in_range (Ok c) (Ok i) (Ok s) (Ok z) (Ok t) (Ok h) (Ok p) (Ok a) (Ok n) (Ok b)
    (Err e) hi hz ht hp ha hb hw = tt
columns_in_range (Ok c) (Ok i) (Ok s) (Ok z) (Ok t) (Ok h) (Ok p) (Ok a) (Ok n) (Ok b)
    (Ok w) hi hz ht hp ha hb hw = record {
      id = hi.below;
      size = hz;
      ticks = ht.below;
      pdu = pdu_low p hp;
      at = ha.below;
      start = hb.below;
      bits_low = hw.above;
      bits_high = hw.below;
    }

-- what a record gives is in range
row_in_range : (fields : List (List ℕ)) → IfOk (row_of fields) RowInRange
row_in_range fields =
    columns_in_range (count_in 10 fields) (number_in 0 2047 1 fields) (name_in 2 fields) (size_in 3 fields)
    (number_in 0 9999999999 4 fields) (header_in 5 fields) (optional_in 1 4294967295 6 fields)
    (number_in 0 63 7 fields) (name_in 8 fields) (number_in 0 511 9 fields) (number_in 1 512 10 fields)
    (number_within 0 2047 1 fields (omega arith)) (then_listed 3 (number_in 0 64 3 fields))
    (number_within 0 9999999999 4 fields (omega arith))
    (optional_within 1 4294967295 6 fields (omega arith))
    (number_within 0 63 7 fields (omega arith)) (number_within 0 511 9 fields (omega arith))
    (number_within 1 512 10 fields (omega arith))

one_more : (n : ℕ) (row : Result MatrixRow ℕ) (others : Result (List MatrixRow) MatrixRefusal)
    → IfOk row RowInRange → IfOk others (AllByRecursion RowInRange)
    → IfOk (in_row bad_row n row >>= λ x. others >>= λ xs. Ok (x ∷ xs)) (AllByRecursion RowInRange)
one_more n (Err k) others h more = tt
one_more n (Ok x) (Err e) h more = tt
one_more n (Ok x) (Ok xs) h more = (h, more)

rows_in_range : (n : ℕ) (rows : List (List (List ℕ)))
    → IfOk (rows_from bad_row row_of n rows) (AllByRecursion RowInRange)
rows_in_range n [] = tt
rows_in_range n (row ∷ rows) =
    one_more n (row_of row) (rows_from bad_row row_of (n + 1) rows) (row_in_range row)
    (rows_in_range (n + 1) rows)

headed : (b : Bool) (r : Result (List MatrixRow) MatrixRefusal) → IfOk r (AllByRecursion RowInRange)
    → IfOk (cond b r (Err bad_header)) (AllByRecursion RowInRange)
headed true r h = h
headed false r h = tt

matrix_in_range : (rows : List (List (List ℕ))) → IfOk (matrix_in rows) (AllByRecursion RowInRange)
matrix_in_range rows =
    headed (begins_with matrix_header rows) (rows_from bad_row row_of 2 (drop 1 rows))
    (rows_in_range 2 (drop 1 rows))

-- what a reader that is exact returned is in range
pub read_in_range : (text : List ℕ) (r : Result (Vec MatrixRow) MatrixFault)
    → Gives (λ v. v.items) matrix_refusal r (matrix_of_text text) → IfOk r (λ v. All RowInRange v.items)
read_in_range text (Err e) h = tt
read_in_range text (Ok v) h = by (matrix_of_text text) h (matrix_in_range (rows_of text))
  where
    by : (r : Result (List MatrixRow) MatrixRefusal) → r ≡ Ok v.items → IfOk r (AllByRecursion RowInRange)
        → All RowInRange v.items
    by (Ok xs) e s =
        let same : xs ≡ v.items = cc in
        rw (← same) (All-from_recursion RowInRange xs s)
    by (Err f) e s = absurd cc

-- ---- and back

header_back : (k : ℕ) (header : Header) (fields : List (List ℕ)) → field_in k fields ≡ header_text header
    → header_in k fields ≡ Ok header
header_back k NoHeader fields e = rw e refl
header_back k Short fields e = rw e refl
header_back k Long fields e = rw e refl

size_back : (k size : ℕ) (fields : List (List ℕ)) → field_in k fields ≡ decimal size → IsSize size → size ≤ 64
    → size_in k fields ≡ Ok size
size_back k size fields e is high =
    rw (number_back 0 64 k size fields e (omega arith) (omega arith) high, is) refl

pdu_back : (o : Option ℕ) (a b c d e f g h i : List ℕ) → ForSome o (λ id. 1 ≤ id)
    → IfSome o (λ id. id ≤ 4294967295)
    → optional_in 1 4294967295 6 (a ∷ b ∷ c ∷ d ∷ e ∷ optional_text o ∷ f ∷ g ∷ h ∷ i ∷ []) ≡ Ok o
pdu_back None a b c d e f g h i low high = refl
pdu_back (Some id) a b c d e f g h i low high =
    optional_back 1 4294967295 6 id (a ∷ b ∷ c ∷ d ∷ e ∷ decimal id ∷ f ∷ g ∷ h ∷ i ∷ []) refl (omega arith)
    (low id refl) high

-- a listed size is at most the greatest
any_below : (xs : List ℕ) (size high : ℕ) → AllByRecursion (λ x. x ≤ high) xs
    → list_any (λ x. x == size) xs ≡ true → size ≤ high
any_below [] size high h e = absurd cc
any_below (x ∷ xs) size high h e = elim (or_cases (x == size) (list_any (λ x. x == size) xs) e) [
  | inl same ↦ omega (arith, h.0, eqb-true x size same)
  | inr later ↦ any_below xs size high h.1 later
]

size_high : (size : ℕ) → IsSize size → size ≤ 64
size_high size is = any_below sizes size 64 (search rules) is

-- a written row is read
pub row_back : (row : MatrixRow) → RowInRange row → IsName row.sender → IsName row.signal
    → IfSome row.pdu (λ id. id ≤ 4294967295) → ReadsBack row
row_back row h sender signal pdu_high =
    let fields = row_fields row in
    let pdu =
    pdu_back row.pdu (decimal row.id) row.sender (decimal row.size) (decimal row.ticks)
    (header_text row.header) (decimal row.at) row.signal (decimal row.start)
    (decimal row.bits) h.pdu pdu_high in
    record {
      row = rw (
        number_back 0 2047 1 row.id fields refl (omega arith) (omega arith) h.id,
        name_back 2 row.sender fields refl sender,
        size_back 3 row.size fields refl h.size (size_high row.size h.size),
        number_back 0 9999999999 4 row.ticks fields refl (omega arith) (omega arith) h.ticks,
        header_back 5 row.header fields refl,
        pdu,
        number_back 0 63 7 row.at fields refl (omega arith) (omega arith) h.at,
        name_back 8 row.signal fields refl signal,
        number_back 0 511 9 row.start fields refl (omega arith) (omega arith) h.start,
        number_back 1 512 10 row.bits fields refl (omega arith) h.bits_low h.bits_high,
      ) refl;
    }

rows_back : (n : ℕ) (rows : List MatrixRow) → AllByRecursion ReadsBack rows
    → rows_from bad_row row_of n (map row_fields rows) ≡ Ok rows
rows_back n [] h = refl
rows_back n (row ∷ rows) h = rw (h.0.row, rows_back (n + 1) rows h.1) refl

-- the written text is read
pub matrix_back : (rows : List MatrixRow) → All ReadsBack rows → matrix_of_text (matrix_text rows) ≡ Ok rows
matrix_back rows h =
    let records =
    rows_of-rows_text 105 (codes "d")
    (codes "sender" ∷ codes "size" ∷ codes "ticks" ∷ codes "header"
    ∷ codes "pdu" ∷ codes "at" ∷ codes "signal" ∷ codes "start" ∷ codes "bits" ∷ []) (map row_fields rows) refl in
    let same = map_read_back row_fields (λ row. refl) rows in
    ap matrix_in (records ∙ ap (λ (r : List (List (List ℕ))). matrix_header ∷ r) same)
    ∙ rows_back 2 rows (recursion_from_All ReadsBack rows h)
