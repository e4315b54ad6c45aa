-- What the program's status says of the words, the files and the line that was said.
use Rattle.std.specs.Prelude.{◌≡◌, ◌⊎◌, ℕ, List, Option, None, IsNone, IsSome, String}
use Rattle.std.specs.declared.alloc.Global.{Global}
use Rattle.pack_base.specs.Outside.{Files, SaidPart, and_said}
use Rattle.canpack_top.specs.Command.{command_of}
use Rattle.canpack_top.specs.Commands.{OfCommand}
use Rattle.canpack_top.specs.Ending.{number_of}
use Rattle.canpack_top.specs.Line.{usage_line}
use Rattle.canpack_top.specs.Meaning.{Answer, Ends, Meaning}
use Rattle.canpack_top.specs.Reads.{SomeRose}

-- the command of the words ended with this answer
abbrev pub IsAnswer : List (String Global) → Files → Files → Answer → Type 0
IsAnswer words before now answer = OfCommand words (λ meaning. Ends meaning before now answer)

-- the command of the words ended with an answer of this status, and its line was said
abbrev pub Answered : ℕ → List (String Global) → Files → Files → Option (List ℕ) → Option (List ℕ) → Type 0
Answered status words before now said_before said_now =
    (answer : Answer) × (status ≡ number_of answer.status) × IsAnswer words before now answer
    × (said_now ≡ and_said said_before answer.line)

-- the line that is due for these words, with the files after it
abbrev pub IsDue : List (String Global) → Files → Files → List ℕ → Type 0
IsDue words before now line =
    (IsNone (command_of words) × (now ≡ before) × (line ≡ usage_line))
    ⊎ ((answer : Answer) × (line ≡ answer.line) × IsAnswer words before now answer)

-- a front of the line that is due was said
abbrev pub SaysPart : List (String Global) → Files → Files → Option (List ℕ) → Option (List ℕ) → Type 0
SaysPart words before now said_before said_now =
    (line : List ℕ) × IsDue words before now line × SaidPart line said_before said_now

-- the write faults of a file that the command writes rose, and of told files no text is refused, and they are
-- as it leaves them at a write fault
abbrev pub WritesPart : Files → Files → (List ℕ → ℕ) → (List ℕ → ℕ) → Meaning → Type 0
WritesPart before now faults_before faults_now meaning =
    SomeRose meaning.writes faults_before faults_now
    × (IsSome before → (meaning.first_refusal before ≡ None) × meaning.LeavesPart before now)

-- a text is refused
abbrev pub IsRefused : Files → Meaning → Type 0
IsRefused files meaning = IsSome (meaning.first_refusal files)

-- the statuses with which a plan ends: the best was found, there is no solution, or the branches are spent
abbrev pub IsEnded : ℕ → Type 0
IsEnded status = (status ≡ 0) ⊎ (status ≡ 10) ⊎ (status ≡ 11)

-- the statuses that say the line of a command's answer: done or accepted, no solution, branches spent, a refusal, a
-- rejection
abbrev pub IsAnswered : ℕ → Type 0
IsAnswered status = IsEnded status ⊎ (status ≡ 4) ⊎ (status ≡ 5)

-- a fault or want of memory, in the place of what the files say
abbrev pub IsExcused : ℕ → Type 0
IsExcused status = (status ≡ 2) ⊎ (status ≡ 3) ⊎ (status ≡ 6) ⊎ (status ≡ 7)

-- the statuses at which no told file changed: usage, a read fault, a refusal, a rejection, want of memory
abbrev pub LeavesFiles : ℕ → Type 0
LeavesFiles status = (status ≡ 1) ⊎ (status ≡ 2) ⊎ (status ≡ 4) ⊎ (status ≡ 5) ⊎ (status ≡ 6)

-- the statuses at which nothing was said: a read fault, a write fault, want of memory
abbrev pub SaysNothing : ℕ → Type 0
SaysNothing status = (status ≡ 2) ⊎ (status ≡ 3) ⊎ (status ≡ 6)

-- the line of an answer of this status was said, of which this holds
abbrev pub SaysAnswer : ℕ → Option (List ℕ) → Option (List ℕ) → (Answer → Type 0) → Type 0
SaysAnswer status before now P =
    (answer : Answer) × (status ≡ number_of answer.status) × (now ≡ and_said before answer.line) × P answer
