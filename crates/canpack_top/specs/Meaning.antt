-- What a command means, in one record, and how it runs.
use Rattle.std.specs.Prelude.{◌≡◌, ◌≢◌, ◌⊎◌, ℕ, List, [], ⊤, Option, None, Some, Result, Ok, Err, IfOk, IsErr, IsErrOf, IsSome}
use Rattle.pack_base.specs.Outside.{Files, Later}
use Rattle.canpack_top.specs.declared.refusal.Refusal.{Refusal}
use Rattle.canpack_top.specs.declared.ending.Answer.{Answer as GivenAnswer}
use Rattle.canpack_top.specs.declared.ending.Halt.{Halt}
use Rattle.canpack_top.specs.declared.ending.Halt.TheVariants as halt
use Rattle.canpack_top.specs.declared.ending.Status.{Status}
use Rattle.canpack_top.specs.declared.ending.Status.TheVariants as status
use Rattle.canpack_top.specs.declared.ending.Stop.{Stop}
use Rattle.canpack_top.specs.declared.ending.Stop.TheVariants as stop
use Rattle.canpack_top.specs.Line.{refused_line}
use Rattle.canpack_top.specs.Reads.{SomeRose}

-- A status that says a line, and this line.
pub record Answer : Type 0 where
  pub status : Status
  pub line : List ℕ

-- the answer that the code holds
abbrev pub seen : GivenAnswer → Answer
seen answer = record { status = answer.status; line = answer.line.items }

-- the answer to a refusal
abbrev pub refused_answer : Refusal → Answer
refused_answer why = record { status = status.Refused; line = refused_line why }

-- what comes of a stop: the answer with the line of the refusal, or the halt
abbrev pub Stops : Stop → Result GivenAnswer Halt → Type 0
Stops (stop.Refused why) (Ok answer) = seen answer ≡ refused_answer why
Stops (stop.Refused why) (Err halt.Memory) = ⊤
Stops (stop.Refused why) (Err halt.ReadFault) = ⊥
Stops (stop.Refused why) (Err halt.WriteFault) = ⊥
Stops stop.ReadFault result = result ≡ Err halt.ReadFault
Stops stop.Memory result = result ≡ Err halt.Memory

-- What a command means. Of files that aren't told it says their names, and the forms of the answers.
pub record Meaning : Type 1 where
  -- the names of the files that it reads
  pub reads : List (List ℕ)
  -- the names of the files that it writes, in this order
  pub writes : List (List ℕ)
  -- the line of the first refusal of told files, if a text is refused
  pub first_refusal : Files → Option (List ℕ)
  -- the form of an answer that it has where no text is refused
  pub Has : Answer → Type 0
  -- this is the answer to told files, of which no text is refused
  pub Answers : Files → Answer → Type 0
  -- the told files before and after such an answer
  pub Leaves : Answer → Files → Files → Type 0
  -- the told files before and after a write fault
  pub LeavesPart : Files → Files → Type 0
  -- what follows from such an answer, of the told files before and after
  pub Shows : Answer → Files → Files → Type 0

-- The command has this answer of its own.
pub record Finishes (meaning : Meaning) (before now : Files) (answer : Answer) : Type 0 where
  pub has : meaning.Has answer
  pub not_refused : answer.status ≢ status.Refused
  pub stand : IsSome before → meaning.first_refusal before ≡ None
  pub answers : IsSome before → meaning.Answers before answer
  pub leaves : IsSome before → meaning.Leaves answer before now
  pub shows : IsSome before → meaning.Shows answer before now
  pub kept : answer.status ≡ status.Rejected → now ≡ before

-- A text is refused.
pub record Refuses (meaning : Meaning) (before now : Files) (answer : Answer) : Type 0 where
  pub why : Refusal
  pub is : answer ≡ refused_answer why
  pub first : IsSome before → meaning.first_refusal before ≡ Some (refused_line why)
  pub same : now ≡ before

-- the command ends with this answer
abbrev pub Ends : Meaning → Files → Files → Answer → Type 0
Ends meaning before now answer = Finishes meaning before now answer ⊎ Refuses meaning before now answer

-- A command ran: it ended with an answer, or halted before.
pub record Runs (meaning : Meaning) {F : Type 0} (files : F → Files) (read_faults write_faults given : F → List ℕ → ℕ)
    (old new : F) (result : Result GivenAnswer Halt) : Type 0 where
  pub ends : IfOk result (λ answer. Ends meaning (files old) (files new) (seen answer))
  pub read_fault : IsErrOf result halt.ReadFault → SomeRose meaning.reads (read_faults old) (read_faults new)
  pub write_fault : IsErrOf result halt.WriteFault
      → SomeRose meaning.writes (write_faults old) (write_faults new)
  pub part : IsErrOf result halt.WriteFault → IsSome (files old)
      → (meaning.first_refusal (files old) ≡ None) × meaning.LeavesPart (files old) (files new)
  pub same : IsErr result → IsErrOf result halt.WriteFault ⊎ (files new ≡ files old)
  pub idle : meaning.writes ≡ [] → files new ≡ files old
  pub later : Later read_faults write_faults given old new
