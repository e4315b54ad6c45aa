-- What was read of texts, beside what they say.
use Rattle.std.specs.Prelude.{◌≡◌, ⊤, ℕ, Option, None, Some, Result, Ok, Err}
use Rattle.canpack_top.specs.declared.refusal.Refusal.{Refusal}
use Rattle.canpack_top.specs.declared.ending.Status.{Status}
use Rattle.canpack_top.specs.declared.ending.Status.TheVariants as status
use Rattle.canpack_top.specs.declared.ending.Stop.{Stop}
use Rattle.canpack_top.specs.declared.ending.Stop.TheVariants as stop

-- the number of a status that says a line
abbrev pub number_of : Status → ℕ
number_of status.Done = 0
number_of status.Refused = 4
number_of status.Rejected = 5
number_of status.NoSolution = 10
number_of status.Spent = 11

-- the stop of a refusal; none stands for want of memory
abbrev pub stop_of : Option Refusal → Stop
stop_of None = stop.Memory
stop_of (Some why) = stop.Refused why

-- what was read of files, seen by view, is what their texts say, or the refusal is theirs; a read fault and want of
-- memory, which texts don't have, come at any time
abbrev pub Gives : {X Y : Type 0} → (X → Y) → Result X Stop → Result Y Refusal → Type 0
Gives view (Ok x) text = text ≡ Ok (view x)
Gives view (Err (stop.Refused why)) text = text ≡ Err why
Gives view (Err stop.ReadFault) text = ⊤
Gives view (Err stop.Memory) text = ⊤

-- the same of bytes in memory, of which no read fault comes
abbrev pub Says : {X Y : Type 0} → (X → Y) → Result X Stop → Result Y Refusal → Type 0
Says view (Ok x) text = text ≡ Ok (view x)
Says view (Err (stop.Refused why)) text = text ≡ Err why
Says view (Err stop.ReadFault) text = ⊥
Says view (Err stop.Memory) text = ⊤
