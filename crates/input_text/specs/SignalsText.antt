-- The text of signals (SIGNALS), the project's own format: CSV as RFC 4180 has it, read by `csv`'s rules.
use Rattle.std.specs.Prelude.{◌≡◌, ℕ, ◌+◌, ◌==◌, ◌∷◌, [], List, codes, decimal, drop, map, Option, Some, None, unwrap_or, Result, Ok, Err, if◌then◌else◌}
use Rattle.pack_model.specs.declared.problem.TheConstants.{MAX_SIGNALS}
use Rattle.pack_model.specs.declared.signal.Signal.{Signal}
use Rattle.csv_table.specs.Columns.{◌>>=◌, begins_with, in_row, count_in, name_in, number_in, optional_in}
use Rattle.csv_table.specs.Rows.{rows_of}
use Rattle.csv_table.specs.Writing.{optional_text, rows_text}
use Rattle.input_text.specs.declared.signals.SignalsFault.{SignalsFault}
use Rattle.input_text.specs.declared.signals.SignalsFault.TheVariants as fault

-- why a text has no signals: its first row is not the header, a row's column breaks its rule, or there are
-- more than 2048
pub data SignalsRefusal : Type 0 where
  bad_header : SignalsRefusal
  bad_row : ℕ → ℕ → SignalsRefusal
  too_many : SignalsRefusal

-- the header, which is row 1
abbrev pub signals_header : List (List ℕ)
signals_header =
    codes "signal" ∷ codes "sender" ∷ codes "pdu" ∷ codes "bits"
    ∷ codes "period_us" ∷ codes "deadline_us" ∷ codes "jitter_us" ∷ []

-- the signal of a record, or the least column that breaks its rule; column 0 is the count of fields
abbrev pub signal_of : List (List ℕ) → Result Signal ℕ
signal_of fields = do
  count ← count_in 7 fields
  name ← name_in 1 fields
  sender ← name_in 2 fields
  pdu ← optional_in 1 4294967295 3 fields
  bits ← number_in 1 512 4 fields
  period ← number_in 1 100000000 5 fields
  deadline ← optional_in 1 100000000 6 fields
  jitter ← optional_in 0 100000000 7 fields
  Ok (record {
    name = name;
    sender = sender;
    pdu = pdu;
    bits = bits;
    period_us = period;
    deadline_us = unwrap_or deadline period;
    jitter_us = unwrap_or jitter 0;
  })

-- the signals of the records from row n on; a record that is one too many is refused, whatever its columns
abbrev pub signals_from : ℕ → List (List (List ℕ)) → Result (List Signal) SignalsRefusal
signals_from n [] = Ok []
signals_from n (row ∷ rows) = if n == MAX_SIGNALS + 2 then Err too_many else (do
  signal ← in_row bad_row n (signal_of row)
  signals ← signals_from (n + 1) rows
  Ok (signal ∷ signals))

-- the signals under the header
abbrev pub signals_in : List (List (List ℕ)) → Result (List Signal) SignalsRefusal
signals_in rows = if begins_with signals_header rows then signals_from 2 (drop 1 rows) else Err bad_header

-- the signals of a text, or its first refusal
abbrev pub signals_of : List ℕ → Result (List Signal) SignalsRefusal
signals_of text = signals_in (rows_of text)

-- the text is one of these signals
abbrev pub SignalsText : List ℕ → List Signal → Type 0
SignalsText text signals = signals_of text ≡ Ok signals

-- what a fault of the reader says of the text
abbrev pub signals_refusal : SignalsFault → Option SignalsRefusal
signals_refusal fault.BadHeader = Some bad_header
signals_refusal (fault.BadRow n k) = Some (bad_row n k)
signals_refusal fault.TooManySignals = Some too_many
signals_refusal fault.Memory = None

-- the fields of a signal as they are written
abbrev pub signal_fields : Signal → List (List ℕ)
signal_fields s =
    s.name ∷ s.sender ∷ optional_text s.pdu ∷ decimal s.bits ∷ decimal s.period_us ∷ decimal
    s.deadline_us ∷ decimal s.jitter_us ∷ []

-- the written fields of a signal are read as the signal
pub record ReadsBack (s : Signal) : Type 0 where
  pub signal : signal_of (signal_fields s) ≡ Ok s

-- the text that is written for signals
abbrev pub signals_text : List Signal → List ℕ
signals_text signals = rows_text (signals_header ∷ map signal_fields signals)
