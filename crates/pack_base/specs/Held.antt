-- Files in memory, by name.
use Rattle.std.specs.Prelude.{◌≡◌, ℕ, List, Option, option_map, String, Vec}
use Rattle.std.specs.declared.alloc.Global.{Global}
use Rattle.std.specs.declared.hash.FoldHasher.{FoldHasher}
use Rattle.std.specs.declared.hash.BuildHasherDefault.{BuildHasherDefault}
use Rattle.std.specs.HashMap.{HashMap, get_by_text}

abbrev pub Held : Type 0
Held = HashMap (String Global) (Vec ℕ Global) (BuildHasherDefault FoldHasher)

-- the file of a name, where there is one
abbrev pub held_at : Held → List ℕ → Option (List ℕ)
held_at held name = option_map (λ bytes. bytes.items) (get_by_text held name)

-- the same files
abbrev pub IsSame : Held → Held → Type 0
IsSame old new = (name : List ℕ) → held_at new name ≡ held_at old name
