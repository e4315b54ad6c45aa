-- The commands, each with its meaning.
use Rattle.std.specs.Prelude.{◌≡◌, ℕ, List, Some, IsSomeAnd, String}
use Rattle.std.specs.declared.alloc.Global.{Global}
use Rattle.canpack_top.specs.declared.command.Command.{Command}
use Rattle.canpack_top.specs.declared.command.Command.TheVariants as command
use Rattle.canpack_top.specs.Check.{check_meaning}
use Rattle.canpack_top.specs.Command.{case_names_in, command_of, names_in}
use Rattle.canpack_top.specs.CasePlan.{case_plan_meaning}
use Rattle.canpack_top.specs.Make.{make_meaning}
use Rattle.canpack_top.specs.Meaning.{Meaning}
use Rattle.canpack_top.specs.Plan.{plan_meaning}

-- the meaning of a command with these words
abbrev pub meaning_of : Command → List (String Global) → Meaning
meaning_of (command.CheckFiles workers) words = check_meaning (names_in words)
meaning_of (command.PlanFiles branches workers) words = plan_meaning branches (names_in words)
meaning_of (command.MakeFiles number) words = make_meaning number (case_names_in words)
meaning_of (command.PlanCase number) words = case_plan_meaning number

-- the words are the line of a command, and this is so of its meaning
abbrev pub OfCommand : List (String Global) → (Meaning → Type 0) → Type 0
OfCommand words P = IsSomeAnd (command_of words) (λ command. P (meaning_of command words))

-- the words are the line of `check`
abbrev pub IsCheck : List (String Global) → Type 0
IsCheck words = (workers : ℕ) × (command_of words ≡ Some (command.CheckFiles workers))

-- the words are the line of `plan`, within so many branches
abbrev pub IsPlan : ℕ → List (String Global) → Type 0
IsPlan branches words = (workers : ℕ) × (command_of words ≡ Some (command.PlanFiles branches workers))

-- the words are the line of `make` with files, with the case of this number
abbrev pub IsMake : ℕ → List (String Global) → Type 0
IsMake number words = command_of words ≡ Some (command.MakeFiles number)

-- the words are the line of `make` without files, with the case of this number
abbrev pub IsPlanCase : ℕ → List (String Global) → Type 0
IsPlanCase number words = command_of words ≡ Some (command.PlanCase number)
