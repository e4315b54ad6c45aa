use Rattle.std.specs.Prelude.{ℕ, ◌<◌, ◌++◌, List, [], ◌∷◌, length, slice_index}
use Rattle.std.specs.List.{remove}
use Rattle.busy_period.specs.declared.timed.Timed.{Timed}
use Rattle.response_test.specs.Frame.{PassesBlocked}

-- a list with one of its entries moved to its end
abbrev pub moved_last : List ℕ → ℕ → List ℕ
moved_last xs index = remove xs index ++ slice_index xs index ∷ []

-- the frame at an index of a level passes with the others of the level higher
abbrev pub PassesAt : List Timed → List ℕ → ℕ → ℕ → ℕ → Type 0
PassesAt frames level blocked bit index = PassesBlocked frames (slice_index level index) (remove level index) blocked bit

-- the last index of a level whose frame passes
pub record IsLastPassing (frames : List Timed) (level : List ℕ) (blocked bit index : ℕ) : Type 0 where
  pub inside : index < length level
  pub passes : PassesAt frames level blocked bit index
  pub none_later : (later : ℕ) → index < later → later < length level → ¬ (PassesAt frames level blocked bit later)
