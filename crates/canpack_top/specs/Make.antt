-- What `make` means: a generated case is written.
use Rattle.std.specs.Prelude.{◌≡◌, ℕ, List, [], ◌∷◌, ◌++◌, length, codes, decimal, None}
use Rattle.pack_base.specs.Outside.{Files, bytes_at}
use Rattle.pack_model.specs.Problem.{Parts}
use Rattle.input_text.specs.NetworkText.{NetworkText, network_text}
use Rattle.input_text.specs.SignalsText.{SignalsText, signals_text}
use Rattle.case_gen.specs.Generated.{case_of, parts_of_case}
use Rattle.canpack_top.specs.declared.ending.Status.TheVariants as status
use Rattle.canpack_top.specs.Command.{CaseNames}
use Rattle.canpack_top.specs.Meaning.{Answer, Meaning}
use Rattle.canpack_top.specs.Write.{PartWritten, Written}

-- the text of NETWORK of the case of a number
unfoldable pub case_network_text : ℕ → List ℕ
case_network_text number = network_text (case_of number).network

-- the text of SIGNALS of the case of a number
unfoldable pub case_signals_text : ℕ → List ℕ
case_signals_text number = signals_text (case_of number).signals

-- the words that say a number, and how many signals and senders a problem has, and what follows them
abbrev pub count_words : ℕ → Parts → List ℕ → List ℕ
count_words number problem rest =
    codes "case " ++ (decimal number ++ (codes " signals " ++ (decimal (length problem.signals)
    ++ (codes " senders " ++ (decimal (length problem.senders) ++ rest)))))

-- the line of these words alone
abbrev pub count_line : ℕ → Parts → List ℕ
count_line number problem = count_words number problem (codes "\n")

-- the line of the case of a number
unfoldable pub case_line : ℕ → List ℕ
case_line number = count_line number (parts_of_case number)

-- NETWORK and SIGNALS hold the texts of the case, and all other files are as before
abbrev pub CaseWritten : ℕ → CaseNames → Files → Files → Type 0
CaseWritten number names before now =
    Written names.network names.signals (case_network_text number) (case_signals_text number) before now

-- NETWORK and SIGNALS hold fronts of the texts of the case, or what they held
abbrev pub CasePartWritten : ℕ → CaseNames → Files → Files → Type 0
CasePartWritten number names before now =
    PartWritten names.network names.signals (case_network_text number) (case_signals_text number) before now

-- NETWORK is read as the network of the case
unfoldable pub ReadsNetwork : ℕ → List ℕ → Type 0
ReadsNetwork number text = NetworkText text (case_of number).network

-- SIGNALS is read as the signals of the case
unfoldable pub ReadsSignals : ℕ → List ℕ → Type 0
ReadsSignals number text = SignalsText text (case_of number).signals

-- the two files are read as the case
abbrev pub HasCase : ℕ → CaseNames → Files → Type 0
HasCase number names files =
    ReadsNetwork number (bytes_at files names.network) × ReadsSignals number (bytes_at files names.signals)

-- the names of the two files
abbrev pub case_names : CaseNames → List (List ℕ)
case_names names = names.network ∷ names.signals ∷ []

-- the answer of `make`
abbrev pub make_answer : ℕ → Answer
make_answer number = record { status = status.Done; line = case_line number }

-- `make` reads no file and refuses none; it writes the two texts of a case, and answers 0 with its line
abbrev pub make_meaning : ℕ → CaseNames → Meaning
make_meaning number names = record {
  reads = [];
  writes = case_names names;
  first_refusal = λ files. None;
  Has = λ answer. answer ≡ make_answer number;
  Answers = λ files answer. answer ≡ make_answer number;
  Leaves = λ answer before now. CaseWritten number names before now;
  LeavesPart = λ before now. CasePartWritten number names before now;
  Shows = λ answer before now. HasCase number names now;
}
