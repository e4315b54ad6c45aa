-- The laws of the text of signals: what is read stands, and what is written is read.
use Rattle.std.proofs.Common.{◌≡◌, ◌≤◌, ◌<◌, ◌+◌, ◌==◌, ◌∷◌, ℕ, Bool, true, false, cond, List, [], length, drop, map, Option, Some, None, Result, Ok, Err, refl, ap, ◌∙◌, arith, decimal, codes, inl, inr}
use Rattle.std.specs.Prelude.{IfOk, IfSome, All, unwrap_or}
use Rattle.std.specs.List.{AllByRecursion}
use Rattle.std.specs.Global.{Vec}
use Rattle.std.proofs.lemmas.Bool.{cases_Bool, ne_eqb}
use Rattle.std.proofs.lemmas.List.Elements.{All-from_recursion, All-weaker, recursion_from_All}
use Rattle.pack_model.specs.Name.{IsName}
use Rattle.pack_model.specs.Signal.{SignalStands}
use Rattle.pack_model.specs.declared.signal.Signal.{Signal}
use Rattle.csv_table.specs.Columns.{◌>>=◌, in_row, begins_with, count_in, name_in, number_in, optional_in}
use Rattle.csv_table.specs.Rows.{rows_of}
use Rattle.csv_table.proofs.Ranges.{Within, name_back, name_named, number_back, number_within, optional_back, optional_within}
use Rattle.csv_table.proofs.RoundTrip.{map_read_back, rows_of-rows_text}
use Rattle.pack_model.specs.Gives.{Gives}
use Rattle.csv_table.specs.Writing.{optional_text}
use Rattle.input_text.specs.declared.signals.SignalsFault.{SignalsFault}
use Rattle.input_text.specs.SignalsText.{signals_refusal, SignalsRefusal, bad_header, too_many, bad_row, ReadsBack, signal_fields, signal_of, signals_from, signals_header, signals_in, signals_of, signals_text}

-- a signal that stands, with its names
pub record IsSignal (s : Signal) : Type 0 where
  pub stands : SignalStands s
  pub name : IsName s.name
  pub sender : IsName s.sender

or_within : (low high other : ℕ) (o : Option ℕ) → IfSome o (Within low high) → Within low high other
    → Within low high (unwrap_or o other)
or_within low high other None h k = k
or_within low high other (Some n) h k = h

pdu_low : (o : Option ℕ) → IfSome o (Within 1 4294967295) → IfSome o (λ id. 1 ≤ id)
pdu_low None h = tt
pdu_low (Some id) h = h.above

-- the columns together
columns_stand : (count : Result ℕ ℕ) (name sender : Result (List ℕ) ℕ) (pdu : Result (Option ℕ) ℕ)
    (bits period : Result ℕ ℕ) (deadline jitter : Result (Option ℕ) ℕ)
    → IfOk name IsName → IfOk sender IsName → IfOk pdu (λ o. IfSome o (Within 1 4294967295))
    → IfOk bits (Within 1 512) → IfOk period (Within 1 100000000)
    → IfOk deadline (λ o. IfSome o (Within 1 100000000)) → IfOk jitter (λ o. IfSome o (Within 0 100000000))
    → IfOk (count >>= λ c. name >>= λ n. sender >>= λ s. pdu >>= λ p. bits >>= λ b. period >>= λ t.
    deadline >>= λ d. jitter >>= λ j.
    Ok (record {
      name = n;
      sender = s;
      pdu = p;
      bits = b;
      period_us = t;
      deadline_us = unwrap_or d t;
      jitter_us = unwrap_or j 0;
    })) IsSignal
columns_stand (Err e) name sender pdu bits period deadline jitter hn hs hp hb ht hd hj = tt
columns_stand (Ok c) (Err e) sender pdu bits period deadline jitter hn hs hp hb ht hd hj = tt
columns_stand (Ok c) (Ok n) (Err e) pdu bits period deadline jitter hn hs hp hb ht hd hj = tt
columns_stand (Ok c) (Ok n) (Ok s) (Err e) bits period deadline jitter hn hs hp hb ht hd hj = tt
columns_stand (Ok c) (Ok n) (Ok s) (Ok p) (Err e) period deadline jitter hn hs hp hb ht hd hj = tt
columns_stand (Ok c) (Ok n) (Ok s) (Ok p) (Ok b) (Err e) deadline jitter hn hs hp hb ht hd hj = tt
columns_stand (Ok c) (Ok n) (Ok s) (Ok p) (Ok b) (Ok t) (Err e) jitter hn hs hp hb ht hd hj = tt
columns_stand (Ok c) (Ok n) (Ok s) (Ok p) (Ok b) (Ok t) (Ok d) (Err e) hn hs hp hb ht hd hj = tt
columns_stand (Ok c) (Ok n) (Ok s) (Ok p) (Ok b) (Ok t) (Ok d) (Ok j) hn hs hp hb ht hd hj =
    let deadline = or_within 1 100000000 t d hd ht in
    let jitter = or_within 0 100000000 0 j hj (record { above = omega arith; below = omega arith }) in
    record {
      stands = record {
        pdu_low = pdu_low p hp;
        bits_low = hb.above;
        bits_high = hb.below;
        period_low = ht.above;
        period_high = ht.below;
        deadline_low = deadline.above;
        deadline_high = deadline.below;
        jitter_high = jitter.below;
      };
      name = hn;
      sender = hs;
    }

-- what a row gives stands
signal_stands : (fields : List (List ℕ)) → IfOk (signal_of fields) IsSignal
signal_stands fields =
    columns_stand (count_in 7 fields) (name_in 1 fields) (name_in 2 fields)
    (optional_in 1 4294967295 3 fields) (number_in 1 512 4 fields) (number_in 1 100000000 5 fields)
    (optional_in 1 100000000 6 fields) (optional_in 0 100000000 7 fields)
    (name_named 1 fields) (name_named 2 fields) (optional_within 1 4294967295 3 fields (omega arith))
    (number_within 1 512 4 fields (omega arith))
    (number_within 1 100000000 5 fields (omega arith)) (optional_within 1 100000000 6 fields (omega arith))
    (optional_within 0 100000000 7 fields (omega arith))

-- what rows give: each stands, and there are no more than there is room for
record AreSignals (n : ℕ) (signals : List Signal) : Type 0 where
  each : AllByRecursion IsSignal signals
  few : n + length signals ≤ 2050

one_more : (n : ℕ) (signal : Result Signal ℕ) (others : Result (List Signal) SignalsRefusal)
    → IfOk signal IsSignal → IfOk others (AreSignals (n + 1))
    → IfOk (in_row bad_row n signal >>= λ s. others >>= λ ss. Ok (s ∷ ss)) (AreSignals n)
one_more n (Err k) others h more = tt
one_more n (Ok s) (Err e) h more = tt
one_more n (Ok s) (Ok ss) h more = record { each = (h, more.each); few = omega (arith, more.few) }

too_many_or : (n : ℕ) (b : Bool) (r : Result (List Signal) SignalsRefusal)
    → (b ≡ false → IfOk r (AreSignals n)) → IfOk (cond b (Err too_many) r) (AreSignals n)
too_many_or n true r h = tt
too_many_or n false r h = h refl

not_last : (n : ℕ) → n ≤ 2050 → (n == 2050) ≡ false → n < 2050
not_last n le other = elim (cases_Bool (n == 2050)) [ inl e ↦ cc | inr e ↦ less n le (λ same. cc) ]
  where
    less : (n : ℕ) → n ≤ 2050 → (n ≡ 2050 → ⊥) → n < 2050
    less n le ne = omega arith

rows_stand : (n : ℕ) (rows : List (List (List ℕ))) → n ≤ 2050 → IfOk (signals_from n rows) (AreSignals n)
rows_stand n [] le = record { each = tt; few = omega arith }
rows_stand n (row ∷ rows) le =
    too_many_or n (n == 2050) _ (λ other.
    let lt = not_last n le other in
    one_more n (signal_of row) (signals_from (n + 1) rows) (signal_stands row)
    (rows_stand (n + 1) rows (omega arith)))

-- what is read stands, and is no more than 2048 signals
pub signals_stand : (text : List ℕ) (signals : List Signal) → signals_of text ≡ Ok signals
    → All IsSignal signals × (length signals ≤ 2048)
signals_stand text signals e =
    chosen (begins_with signals_header (rows_of text)) (signals_from 2 (drop 1 (rows_of text))) e
    (rows_stand 2 (drop 1 (rows_of text)) (omega arith))
  where
    read : (r : Result (List Signal) SignalsRefusal) → r ≡ Ok signals → IfOk r (AreSignals 2)
        → All IsSignal signals × (length signals ≤ 2048)
    read (Ok xs) is h =
        let same : xs ≡ signals = cc in
        rw (← same) (All-from_recursion IsSignal xs h.each, omega (arith, h.few))
    read (Err f) is h = absurd cc

    chosen : (b : Bool) (r : Result (List Signal) SignalsRefusal) → cond b r (Err bad_header) ≡ Ok signals
        → IfOk r (AreSignals 2) → All IsSignal signals × (length signals ≤ 2048)
    chosen true r is h = read r is h
    chosen false r is h = absurd cc

-- ---- and back

pdu_back : (o : Option ℕ) (a b c d e f : List ℕ) → IfSome o (λ id. 1 ≤ id) → IfSome o (λ id. id ≤ 4294967295)
    → optional_in 1 4294967295 3 (a ∷ b ∷ optional_text o ∷ c ∷ d ∷ e ∷ f ∷ []) ≡ Ok o
pdu_back None a b c d e f low high = refl
pdu_back (Some id) a b c d e f low high =
    optional_back 1 4294967295 3 id (a ∷ b ∷ decimal id ∷ c ∷ d ∷ e ∷ f ∷ []) refl (omega arith) low high

-- a written signal is read
pub signal_back : (s : Signal) → IsSignal s → IfSome s.pdu (λ id. id ≤ 4294967295) → ReadsBack s
signal_back s is pdu_high =
    let fields = signal_fields s in
    let stands = is.stands in
    let pdu =
    pdu_back s.pdu s.name s.sender (decimal s.bits) (decimal s.period_us) (decimal s.deadline_us)
    (decimal s.jitter_us) stands.pdu_low pdu_high in
    record {
      signal = rw (
        name_back 1 s.name fields refl is.name,
        name_back 2 s.sender fields refl is.sender,
        pdu,
        number_back 1 512 4 s.bits fields refl (omega arith) stands.bits_low stands.bits_high,
        number_back 1 100000000 5 s.period_us fields refl (omega arith) stands.period_low stands.period_high,
        optional_back 1 100000000 6 s.deadline_us fields refl
            (omega arith) stands.deadline_low stands.deadline_high,
        optional_back 0 100000000 7 s.jitter_us fields refl (omega arith) (omega arith) stands.jitter_high,
      ) refl;
    }

rows_back : (n : ℕ) (signals : List Signal) → n + length signals ≤ 2050 → AllByRecursion ReadsBack signals
    → signals_from n (map signal_fields signals) ≡ Ok signals
rows_back n [] few h = refl
rows_back n (s ∷ ss) few h =
    let room : (n == 2050) ≡ false = ne_eqb n 2050 (λ e. absurd (omega (arith, e))) in
    rw (room, h.0.signal, rows_back (n + 1) ss (omega arith) h.1) refl

-- the written text is read
pub signals_back : (signals : List Signal) → length signals ≤ 2048 → All ReadsBack signals
    → signals_of (signals_text signals) ≡ Ok signals
signals_back signals few h =
    let rows =
    rows_of-rows_text 115 (codes "ignal")
    (codes "sender" ∷ codes "pdu" ∷ codes "bits"
    ∷ codes "period_us" ∷ codes "deadline_us" ∷ codes "jitter_us" ∷ []) (map signal_fields signals) refl in
    let same = map_read_back signal_fields (λ s. refl) signals in
    ap signals_in (rows ∙ ap (λ (r : List (List (List ℕ))). signals_header ∷ r) same)
    ∙ rows_back 2 signals (omega arith) (recursion_from_All ReadsBack signals h)

-- ---- what a reader that is exact returned

pub read_stand : (text : List ℕ) (r : Result (Vec Signal) SignalsFault)
    → Gives (λ v. v.items) signals_refusal r (signals_of text) → IfOk r (λ v. All SignalStands v.items)
read_stand text (Ok v) h =
    All-weaker IsSignal SignalStands (λ s is. is.stands) v.items (signals_stand text v.items h).0
read_stand text (Err e) h = tt

pub read_few : (text : List ℕ) (r : Result (Vec Signal) SignalsFault)
    → Gives (λ v. v.items) signals_refusal r (signals_of text) → IfOk r (λ v. length v.items ≤ 2048)
read_few text (Ok v) h = (signals_stand text v.items h).1
read_few text (Err e) h = tt
