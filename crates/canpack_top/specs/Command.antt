-- The words of a command.
use Rattle.std.specs.Prelude.{◌&&◌, ◌==◌, ◌≤◌, IsTrue, ℕ, Bool, List, [], length, map, not, codes, Option, None, Some, if◌then◌else◌, option_map, slice_index_or, String}
use Rattle.std.specs.String.{string_bytes}
use Rattle.std.specs.declared.alloc.Global.{Global}
use Rattle.std.specs.Str.{bytes_eq}
use Rattle.csv_table.specs.Decimal.{decimal_of}
use Rattle.canpack_top.specs.declared.command.Names.{Names as GivenNames}
use Rattle.canpack_top.specs.declared.command.CaseNames.{CaseNames as GivenCaseNames}
use Rattle.canpack_top.specs.declared.command.Command.{Command}
use Rattle.canpack_top.specs.declared.command.Command.TheVariants as command

-- The four files that the words name.
pub record Names : Type 0 where
  pub network : List ℕ
  pub signals : List ℕ
  pub matrix : List ℕ
  pub cert : List ℕ

-- no name is empty, and no two are equal
abbrev pub are_names : Names → Bool
are_names n =
    not (length n.network == 0) && not (length n.signals == 0) && not (length n.matrix == 0) && not (length n.cert == 0)
    && not (bytes_eq n.network n.signals) && not (bytes_eq n.network n.matrix) && not (bytes_eq n.network n.cert)
    && not (bytes_eq n.signals n.matrix) && not (bytes_eq n.signals n.cert) && not (bytes_eq n.matrix n.cert)

-- a word, by its place from 0
abbrev pub word : List (String Global) → ℕ → List ℕ
word words place = slice_index_or (map string_bytes words) place []

-- the names in the second to the fifth word
abbrev pub names_in : List (String Global) → Names
names_in words = record { network = word words 1; signals = word words 2; matrix = word words 3; cert = word words 4 }

-- the command of six words: `check` with its four files, and 1 to 64 workers
abbrev pub check_of : List (String Global) → Option Command
check_of words =
    if bytes_eq (word words 0) (codes "check") && are_names (names_in words)
    then option_map (λ workers. command.CheckFiles workers) (decimal_of 1 64 (word words 5))
    else None

-- the command of seven words: `plan` with its four files, 1 to 1000000 branches, and one worker
abbrev pub plan_of : List (String Global) → Option Command
plan_of words =
    if bytes_eq (word words 0) (codes "plan") && bytes_eq (word words 6) (codes "1") && are_names (names_in words)
    then option_map (λ branches. command.PlanFiles branches 1) (decimal_of 1 1000000 (word words 5))
    else None

-- The two files that a generated case is written to.
pub record CaseNames : Type 0 where
  pub network : List ℕ
  pub signals : List ℕ

-- no name is empty, and they differ
abbrev pub are_case_names : CaseNames → Bool
are_case_names n = not (length n.network == 0) && not (length n.signals == 0) && not (bytes_eq n.network n.signals)

-- the names in the third and the fourth word
abbrev pub case_names_in : List (String Global) → CaseNames
case_names_in words = record { network = word words 2; signals = word words 3 }

-- the command of four words: `make` with a number from 0 to 1000000 and its two files
abbrev pub make_of : List (String Global) → Option Command
make_of words =
    if bytes_eq (word words 0) (codes "make") && are_case_names (case_names_in words)
    then option_map (λ number. command.MakeFiles number) (decimal_of 0 1000000 (word words 1))
    else None

-- the command of two words: `make` with a number from 0 to 1000000
abbrev pub plan_case_of : List (String Global) → Option Command
plan_case_of words =
    if bytes_eq (word words 0) (codes "make")
    then option_map (λ number. command.PlanCase number) (decimal_of 0 1000000 (word words 1))
    else None

-- the command of the words, where they are the line of one
abbrev pub command_of : List (String Global) → Option Command
command_of words =
    if length words == 2 then plan_case_of words
    else if length words == 4 then make_of words
    else if length words == 6 then check_of words
    else if length words == 7 then plan_of words
    else None

-- the words name the files of a command, and its numbers are in their ranges
abbrev pub HasNames : List (String Global) → Command → Type 0
HasNames words (command.CheckFiles workers) =
    (6 ≤ length words) × IsTrue (are_names (names_in words)) × (1 ≤ workers) × (workers ≤ 64)
HasNames words (command.PlanFiles branches workers) =
    (6 ≤ length words) × IsTrue (are_names (names_in words)) × (1 ≤ branches) × (branches ≤ 1000000)
HasNames words (command.MakeFiles number) =
    (4 ≤ length words) × IsTrue (are_case_names (case_names_in words)) × (number ≤ 1000000)
HasNames words (command.PlanCase number) = number ≤ 1000000

-- the names that the code holds
abbrev pub names_of : GivenNames → Names
names_of n = record { network = n.network.now; signals = n.signals.now; matrix = n.matrix.now; cert = n.cert.now }

-- the two names that the code holds
abbrev pub case_names_of : GivenCaseNames → CaseNames
case_names_of n = record { network = n.network.now; signals = n.signals.now }
