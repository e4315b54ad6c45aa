-- Laws on the records of a text: each leaves fewer bytes, and the machine between two records.
use Rattle.std.proofs.Common.{◌≡◌, ◌≤◌, ◌<◌, ℕ, zero, suc, ◌+◌, ◌==◌, ◌||◌, Bool, true, false, not, cond, List, [], ◌∷◌, length, Option, Some, None, refl, sym, ap, subst, arith, ◌∙◌, inl, inr}
use Rattle.std.proofs.lemmas.Bool.{cases_Bool}
use Rattle.csv.specs.Machine.{Read, ends_at_end, field_after, fields_after, in_field, is_end, next_record, start_field, start_record, step}
use Rattle.csv.specs.Reading.{default_config, is_bom, records_from, records_next, strip_bom}
use Rattle.csv.specs.declared.parser.State.{State}
use Rattle.csv.specs.declared.parser.State.TheVariants as st
use Rattle.csv.specs.declared.parser.Action.{Action}
use Rattle.csv.specs.declared.parser.Action.TheVariants as act
use Rattle.csv.specs.Reading.{NextIs, ReadRecord, ReadsNext, is_flexible, pending_of, source_of, took_first}
use Rattle.csv.specs.declared.reader.Reader.{Reader}
use Rattle.csv_table.specs.Inside.{IsOpen, records_left, rows_left}
use Rattle.csv_table.specs.Rows.{Takes, rows_of}

-- a step that ends a record leaves the machine between two
abbrev EndsBetween : State × Action → Type 0
EndsBetween p = is_end p.1 ≡ true → ends_at_end p.0 ≡ false

skips : (s : State) → EndsBetween (s, act.Skip)
skips s e = absurd cc

copies : (s : State) → EndsBetween (s, act.Copy)
copies s e = absurd cc

chosen : (b : Bool) (p q : State × Action) → EndsBetween p → EndsBetween q → EndsBetween (cond b p q)
chosen true p q h k = h
chosen false p q h k = k

ended : (c : ℕ) → ends_at_end (cond (c == 13) st.AfterCr st.StartRecord) ≡ false
ended c = elim (cases_Bool (c == 13)) [ inl t ↦ rw t refl | inr f ↦ rw f refl ]

in_field_between : (c : ℕ) → EndsBetween (in_field default_config c)
in_field_between c =
    chosen (c == 44) _ _ (λ e. absurd cc)
    (chosen ((c == 13) || (c == 10)) _ _ (λ e. ended c) (copies st.InField))

start_field_between : (c : ℕ) → EndsBetween (start_field default_config c)
start_field_between c = chosen (c == 34) _ _ (skips st.InQuoted) (in_field_between c)

start_record_between : (c : ℕ) → EndsBetween (start_record default_config c)
start_record_between c = chosen ((c == 13) || (c == 10)) _ _ (skips st.StartRecord) (start_field_between c)

step_between : (s : State) (c : ℕ) → EndsBetween (step default_config s c)
step_between st.StartRecord c = start_record_between c
step_between st.StartField c = start_field_between c
step_between st.InField c = in_field_between c
step_between st.InQuoted c = chosen (c == 34) _ _ (skips st.AfterQuote) (copies st.InQuoted)
step_between st.InEscape c = copies st.InQuoted
step_between st.AfterQuote c = chosen (c == 34) _ _ (copies st.InQuoted) (in_field_between c)
step_between st.InComment c = chosen (c == 10) _ _ (skips st.StartRecord) (skips st.InComment)
step_between st.AfterCr c = chosen (c == 10) _ _ (skips st.StartRecord) (start_record_between c)

-- what a record leaves: the machine between two records, and no more bytes than there were
record Leaves (most : ℕ) (p : Read) : Type 0 where
  between : ends_at_end p.1 ≡ false
  fewer : length p.2 ≤ most

abbrev AllLeave : ℕ → Option Read → Type 0
AllLeave most None = Unit {0}
AllLeave most (Some p) = Leaves most p

leaves_more : (n : ℕ) (o : Option Read) → AllLeave n o → AllLeave (suc n) o
leaves_more n None h = tt
leaves_more n (Some p) h = record { between = h.between; fewer = omega (arith, h.fewer) }

last_leaves : (b : Bool) (f : List (List ℕ)) → AllLeave 0 (cond b (Some (f, st.StartRecord, [])) None)
last_leaves true f = record { between = refl; fewer = omega arith }
last_leaves false f = tt

record_leaves : (s : State) (fields : List (List ℕ)) (field xs : List ℕ)
    → AllLeave (length xs) (next_record default_config s fields field xs)
unfolding next_record
record_leaves s fields field [] = last_leaves (ends_at_end s) _
record_leaves s fields field (c ∷ rest) =
    elim (cases_Bool (is_end (step default_config s c).1)) [
      | inl e ↦ rw e (record { between = step_between s c e; fewer = omega arith })
      | inr e ↦ rw e (leaves_more (length rest) _ (record_leaves (step default_config s c).0 _ _ rest))
    ]

-- between two records a record takes a byte
record_takes : (s : State) (xs : List ℕ) (p : Read) → ends_at_end s ≡ false
    → next_record default_config s [] [] xs ≡ Some p → (ends_at_end p.1 ≡ false) × (length p.2 < length xs)
unfolding next_record
record_takes s [] p between e = cc (rw between at e)
record_takes s (c ∷ rest) p between e =
    elim (cases_Bool (is_end (step default_config s c).1)) [
      | inl end ↦
          let q = rw end at e in
          let same : (fields_after (step default_config s c).1 [] [], (step default_config s c).0, rest) ≡ p =
          cc in
          subst (λ (r : Read). (ends_at_end r.1 ≡ false) × (length r.2 < suc (length rest))) same
          (step_between s c end, omega arith)
      | inr goes ↦
          let q = rw goes at e in
          let l : AllLeave (length rest) (Some p) =
          rw q at (record_leaves (step default_config s c).0
          (fields_after (step default_config s c).1 [] [])
          (field_after (step default_config s c).1 c []) rest) in
          (l.between, omega (arith, l.fewer))
    ]

-- more turns than there are bytes give the same records
turns : (n m : ℕ) (s : State) (xs : List ℕ) → ends_at_end s ≡ false → length xs < n → length xs < m
    → records_from default_config n s xs ≡ records_from default_config m s xs
unfolding records_from
turns zero m s xs between h k = absurd (omega arith)
turns (suc n) zero s xs between h k = absurd (omega arith)
turns (suc n) (suc m) s xs between h k =
    by (next_record default_config s [] [] xs) refl (λ q z f. turns n m q z f)
  where
    by : (o : Option Read) → next_record default_config s [] [] xs ≡ o
        → ((q : State) (z : List ℕ) → ends_at_end q ≡ false → length z < n → length z < m
        → records_from default_config n q z ≡ records_from default_config m q z)
        → records_next (records_from default_config n) o ≡ records_next (records_from default_config m) o
    by None e more = refl
    by (Some p) e more =
        let t = record_takes s xs p between e in
        ap (λ (rows : List (List (List ℕ))). p.0 ∷ rows)
        (more p.1 p.2 t.0 (omega (arith, t.1)) (omega (arith, t.1)))

-- the first record and the others
pub rows_first : (s : State) (xs : List ℕ) (p : Read) → ends_at_end s ≡ false
    → next_record default_config s [] [] xs ≡ Some p
    → (records_left s (Some xs) ≡ p.0 ∷ records_left p.1 (Some p.2)) × (ends_at_end p.1 ≡ false)
unfolding records_from
rows_first s xs p between e =
    let t = record_takes s xs p between e in
    let n : length xs + 1 ≡ suc (length xs) = omega arith in (
      rw (n, e) (ap (λ (rows : List (List (List ℕ))). p.0 ∷ rows)
          (turns (length xs) (length p.2 + 1) p.1 p.2 t.0 t.1 (omega arith))),
      t.0,
    )

-- no record
pub rows_none : (s : State) (xs : List ℕ) → next_record default_config s [] [] xs ≡ None
    → records_left s (Some xs) ≡ []
unfolding records_from
rows_none s xs e =
    let n : length xs + 1 ≡ suc (length xs) = omega arith in
    rw (n, e) refl

next_some : (o : Option Read) (f : List (List ℕ)) (s : State) (z : List ℕ) → NextIs o true f s z
    → (p : Read) × (o ≡ Some p) × (f ≡ p.0) × (s ≡ p.1) × (z ≡ p.2)
next_some None f s z h = absurd cc
next_some (Some p) f s z h = (p, refl, h.1, h.2, h.3)

next_none : (o : Option Read) (f : List (List ℕ)) (s : State) (z : List ℕ) → NextIs o false f s z → o ≡ None
next_none None f s z h = refl
next_none (Some p) f s z h = absurd cc

joined : (rows : List (List (List ℕ))) (f g : List (List ℕ)) (s u : State) (y z : List ℕ) → f ≡ g → s ≡ u
    → y ≡ z → rows ≡ g ∷ records_left u (Some z) → rows ≡ f ∷ records_left s (Some y)
joined rows f g s u y z a b c h = rw (a, b, c) h

-- a read that found a record took the first, and leaves the others
rows_after : (s s2 : State) (bytes : List ℕ) (left : Option (List ℕ)) (f : List (List ℕ))
    → ends_at_end s ≡ false → ReadsNext default_config s (Some bytes) left true f s2
    → (z : List ℕ) × (left ≡ Some z) × (ends_at_end s2 ≡ false)
    × (records_left s (Some bytes) ≡ f ∷ records_left s2 (Some z))
rows_after s s2 bytes None f between h = absurd h
rows_after s s2 bytes (Some z) f between h =
    let (p, next, f_is, s_is, z_is) = next_some _ f s2 z h in
    let rows = rows_first s bytes p between next in
    (z, refl, rw s_is rows.1, joined _ f p.0 s2 p.1 z p.2 f_is s_is z_is rows.0)

-- a read that found none
rows_ended : (s s2 : State) (bytes : List ℕ) (left : Option (List ℕ)) (f : List (List ℕ))
    → ReadsNext default_config s (Some bytes) left false f s2 → records_left s (Some bytes) ≡ []
rows_ended s s2 bytes None f h = absurd h
rows_ended s s2 bytes (Some z) f h = rows_none s bytes (next_none _ f s2 z h)

-- a read that found a record took the first of those that were left, and the reader stands between two
-- records
pub took : {R : Type 0} (rem : R → Option (List ℕ)) (a b : Reader R) (f : List (List ℕ)) → IsOpen rem a
    → ReadRecord rem a b true f → took_first b ≡ true → is_flexible b ≡ is_flexible a
    → IsOpen rem b × (rows_left rem false a ≡ f ∷ rows_left rem false b)
took rem a b f is_open read first flexible =
    let (bytes, known) = is_open.known in
    let (z, left, between, rows) =
    rows_after a.state b.state bytes (pending_of (rem b.rdr) b) f is_open.between
    (rw (is_open.config, known) at read.0) in
    let source : source_of rem b ≡ Some z = rw read.1 left in (
      record {
        config = read.2 ∙ is_open.config;
        trim = read.3 ∙ is_open.trim;
        flexible = flexible ∙ is_open.flexible;
        ready = inl first;
        between = between;
        known = (z, source);
      },
      ap (records_left a.state) known ∙ rows
          ∙ ap (λ (o : Option (List ℕ)). f ∷ records_left b.state o) (sym source),
    )

-- a read says what it took
pub takes : {R : Type 0} (rem : R → Option (List ℕ)) (a b : Reader R) (found : Bool) (f : List (List ℕ))
    → IsOpen rem a → ReadRecord rem a b found f → took_first b ≡ true → is_flexible b ≡ is_flexible a
    → Takes (rows_left rem false a) (rows_left rem (not found) b) found f
takes rem a b true f is_open read first flexible = (took rem a b f is_open read first flexible).1
takes rem a b false f is_open read first flexible =
    let (bytes, known) = is_open.known in (
      ap (records_left a.state) known
          ∙ rows_ended a.state b.state bytes (pending_of (rem b.rdr) b) f
          (rw (is_open.config, known) at read.0),
      refl,
    )

-- no more records than turns
next_few : (n : ℕ) (o : Option Read)
    → ((s : State) (xs : List ℕ) → length (records_from default_config n s xs) ≤ n)
    → length (records_next (records_from default_config n) o) ≤ suc n
next_few n None h = omega arith
next_few n (Some p) h = omega (arith, h p.1 p.2)

records_few : (n : ℕ) (s : State) (xs : List ℕ) → length (records_from default_config n s xs) ≤ n
unfolding records_from
records_few zero s xs = omega arith
records_few (suc n) s xs = next_few n (next_record default_config s [] [] xs) (λ q z. records_few n q z)

stripped_few : (xs : List ℕ) → length (strip_bom xs) ≤ length xs
unfolding strip_bom
stripped_few [] = omega arith
stripped_few (a ∷ []) = omega arith
stripped_few (a ∷ b ∷ []) = omega arith
stripped_few (a ∷ b ∷ c ∷ rest) = elim (cases_Bool (is_bom a b c)) [
  | inl e ↦ rw e (omega arith)
  | inr e ↦ rw e (omega arith)
]

-- no more records than bytes and one
pub rows_few : (text : List ℕ) → length (rows_of text) ≤ length text + 1
rows_few text =
    omega (
      arith,
      records_few (length (strip_bom text) + 1) st.StartRecord (strip_bom text),
      stripped_few text,
    )
