-- What the four texts say, or why one is refused.
use Rattle.std.specs.Prelude.{ℕ, List, length, nat_lt, Result, Ok, Err, if◌then◌else◌}
use Rattle.pack_model.specs.declared.network.Network.{Network}
use Rattle.pack_model.specs.declared.signal.Signal.{Signal}
use Rattle.pack_model.specs.declared.problem.ProblemFault.{ProblemFault}
use Rattle.pack_model.specs.declared.problem.ProblemFault.TheVariants as fault
use Rattle.matrix_text.specs.MatrixText.{MatrixRefusal, matrix_of_text}
use Rattle.matrix_text.specs.MatrixText as matrix
use Rattle.matrix_rows.specs.declared.matrix.MatrixRow.{MatrixRow}
use Rattle.input_text.specs.NetworkText.{NetworkRefusal, bad_member, network_of, not_json}
use Rattle.input_text.specs.SignalsText.{SignalsRefusal, signals_of}
use Rattle.input_text.specs.SignalsText as signals
use Rattle.cert_text.specs.CertText.{CertRefusal}
use Rattle.cert_text.specs.CertText as cert
use Rattle.cert_text.specs.Parts.{CertParts}
use Rattle.cert_text.specs.Reading.{cert_of_text}
use Rattle.pack_base.specs.declared.reading.ReadWhole.{ReadWhole}
use Rattle.pack_base.specs.declared.reading.ReadWhole.TheVariants as whole
use Rattle.canpack_top.specs.declared.ending.Stop.{Stop}
use Rattle.canpack_top.specs.declared.ending.Stop.TheVariants as stop
use Rattle.canpack_top.specs.declared.refusal.Role.{Role}
use Rattle.canpack_top.specs.declared.refusal.Role.TheVariants as role
use Rattle.canpack_top.specs.declared.refusal.Refusal.{Refusal}
use Rattle.canpack_top.specs.declared.refusal.Refusal.TheVariants as refusal

-- what is read, or the refusal that its reader's stands for
abbrev pub refused_as : {X E : Type 0} → (E → Refusal) → Result X E → Result X Refusal
refused_as meant (Ok x) = Ok x
refused_as meant (Err e) = Err (meant e)

abbrev pub network_refused : NetworkRefusal → Refusal
network_refused not_json = refusal.NotJson
network_refused (bad_member member) = refusal.BadMember member

abbrev pub signals_refused : SignalsRefusal → Refusal
signals_refused signals.bad_header = refusal.BadHeader role.Signals
signals_refused (signals.bad_row row column) = refusal.BadRow role.Signals row column
signals_refused signals.too_many = refusal.TooManySignals

abbrev pub matrix_refused : MatrixRefusal → Refusal
matrix_refused matrix.bad_header = refusal.BadHeader role.Matrix
matrix_refused (matrix.bad_row row column) = refusal.BadRow role.Matrix row column

abbrev pub cert_refused : CertRefusal → Refusal
cert_refused (cert.bad_line number) = refusal.BadLine number
cert_refused cert.cut = refusal.Cut

-- the problem of a network and signals is never want of memory, which the last case is
abbrev pub problem_refused : ProblemFault → Refusal
problem_refused fault.NoSignals = refusal.NoSignals
problem_refused fault.TooManySignals = refusal.TooManySignals
problem_refused (fault.TwiceNamed row) = refusal.TwiceNamed row
problem_refused (fault.PduSenders row) = refusal.PduSenders row
problem_refused (fault.PduTooLarge id) = refusal.PduTooLarge id
problem_refused fault.TooManyItems = refusal.TooManyItems
problem_refused fault.PeriodsMixed = refusal.PeriodsMixed
problem_refused fault.Memory = refusal.NoSignals

-- why the problem of a network and signals stops
abbrev pub problem_stop : ProblemFault → Stop
problem_stop fault.NoSignals = stop.Refused refusal.NoSignals
problem_stop fault.TooManySignals = stop.Refused refusal.TooManySignals
problem_stop (fault.TwiceNamed row) = stop.Refused (refusal.TwiceNamed row)
problem_stop (fault.PduSenders row) = stop.Refused (refusal.PduSenders row)
problem_stop (fault.PduTooLarge id) = stop.Refused (refusal.PduTooLarge id)
problem_stop fault.TooManyItems = stop.Refused refusal.TooManyItems
problem_stop fault.PeriodsMixed = stop.Refused refusal.PeriodsMixed
problem_stop fault.Memory = stop.Memory

-- why the reading of a whole file stops
abbrev pub whole_stop : ReadWhole → Role → Stop
whole_stop whole.ReadFault file = stop.ReadFault
whole_stop whole.TooLarge file = stop.Refused (refusal.TooLarge file)
whole_stop whole.Memory file = stop.Memory

-- the text, where it has at most so many bytes
abbrev pub within : ℕ → Role → List ℕ → Result (List ℕ) Refusal
within limit part text = if nat_lt limit (length text) then Err (refusal.TooLarge part) else Ok text

-- the network of a text
unfoldable pub network_in : List ℕ → Result Network Refusal
network_in text = refused_as network_refused (network_of text)

-- the signals of a text
unfoldable pub signals_in : List ℕ → Result (List Signal) Refusal
signals_in text = refused_as signals_refused (signals_of text)

-- the rows of a text
unfoldable pub matrix_in : List ℕ → Result (List MatrixRow) Refusal
matrix_in text = refused_as matrix_refused (matrix_of_text text)

-- the certificate of a text
unfoldable pub cert_in : List ℕ → Result CertParts Refusal
cert_in text = refused_as cert_refused (cert_of_text text)
