-- The load of groupings in eighths of ticks a common period: the project's own.
use Rattle.std.specs.Prelude.{ℕ, ◌≤◌, ◌*◌, List, Option, None, Some}
use Rattle.pack_model.specs.declared.item.Item.{Item}
use Rattle.pack_model.specs.Problem.{Parts}
use Rattle.class_frame.specs.Classes.{load_of}

-- the load of the classes so far, in eighths
abbrev pub load8_of : Parts → List Item → List ℕ → ℕ
load8_of problem items labels = 8 * load_of problem items labels

-- there is a value, and the bound reaches it
abbrev pub Reaches : Option ℕ → ℕ → Type 0
Reaches None bound = ⊥
Reaches (Some value) bound = value ≤ bound
