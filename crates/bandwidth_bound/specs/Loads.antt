-- How great loads are: the project's own.
use Rattle.std.specs.Prelude.{ℕ, ◌<◌, ◌≤◌, ◌^◌, List, length}
use Rattle.pack_model.specs.declared.item.Item.{Item}
use Rattle.pack_model.specs.Problem.{Parts, IsProblem}
use Rattle.grouping_tree.specs.Partial.{IsPartial}
use Rattle.bandwidth_bound.specs.Bounds.{load8_of}
use Rattle.bandwidth_bound.specs.Laws.{AreOf}

-- a load in eighths is below 2 to the power of 128, and so is the bound
abbrev pub LoadsFit : Type 0
LoadsFit = (problem : Parts) → IsProblem problem → (items : List Item) → AreOf problem items → (p : List ℕ)
    → IsPartial items p → length p ≤ 128 → load8_of problem items p < 2 ^ 128
