-- What a function of the code returned, beside what the definitions say: the same, want of memory aside.
use Rattle.std.specs.Prelude.{◌≡◌, Option, Some, None, Result, Ok, Err}

-- a fault that the definitions have is theirs; want of memory, which they don't have, comes at any time
abbrev pub Explains : {Y F : Type 0} → Option F → Result Y F → Type 0
Explains None said = Unit {0}
Explains (Some f) said = said ≡ Err f

-- what was returned, seen by view, is what is said, unless memory ran out; a fault stands for the one of the
-- definitions that it is meant as, want of memory for none
abbrev pub Gives : {X Y E F : Type 0} → (X → Y) → (E → Option F) → Result X E → Result Y F → Type 0
Gives view meant (Ok x) said = said ≡ Ok (view x)
Gives view meant (Err e) said = Explains (meant e) said
