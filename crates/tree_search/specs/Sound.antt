-- What is found shows what it says, and what the tree of a search then shows.
use Rattle.std.specs.Prelude.{◌≤◌, ◌<◌, ◌*◌, ⊤, ℕ, Bool, List, length, Option, Some, None}
use Rattle.pack_model.specs.declared.item.Item.{Item}
use Rattle.response_test.specs.declared.evidence.Evidence.{Evidence}
use Rattle.bandwidth_bound.specs.Bounds.{Reaches}
use Rattle.bandwidth_bound.specs.Goals.{eighths}
use Rattle.bandwidth_bound.specs.Trees.{Goal}
use Rattle.tree_search.specs.declared.finding.Finding.{Finding}
use Rattle.tree_search.specs.declared.finding.Finding.TheVariants.{Bounded, Failed, Complete, Parted}

-- the second best load is no greater than the first
abbrev pub IsNoWorse : Option ℕ → Option ℕ → Type 0
IsNoWorse None best = ⊤
IsNoWorse (Some old) None = ⊥
IsNoWorse (Some old) (Some new) = new ≤ old

module _ (items : List Item) (lower8 : List ℕ → ℕ) (AreFailing : List ℕ → List (ℕ × Evidence) → Type 0) where
  -- what a tree is to show of the groupings of the items with a best load
  abbrev pub goal_of : Bool → Option ℕ → Goal
  goal_of may_leave best = record {
    items = items;
    lower8 = lower8;
    value = eighths best;
    may_leave = may_leave;
    AreFailing = AreFailing;
  }

  -- what is found at a partial grouping shows this there
  abbrev pub Shown : Option ℕ → List ℕ → Finding → Type 0
  Shown best p Bounded = Reaches (eighths best) (lower8 p)
  Shown best p (Failed named) = AreFailing p named
  Shown best p (Complete load order) = (8 * load ≤ lower8 p) × IsNoWorse best (Some load)
  Shown best p Parted = length p < length items
