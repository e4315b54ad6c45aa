use Rattle.std.specs.Prelude.{ℕ, ◌+◌, ◌<◌, ◌≤◌, List, length, Contains, slice_index, take, drop}
use Rattle.std.specs.List.Sorted.{IsStrictlyIncreasing}
use Rattle.busy_period.specs.declared.timed.Timed.{Timed}
use Rattle.response_test.specs.Frame.{PassesAgainst}
use Rattle.response_test.specs.Order.{NamesEachOnce, others_of}
use Rattle.priority_assign.specs.declared.assignment.Assigned.{Assigned}
use Rattle.priority_assign.specs.declared.assignment.Assigned.TheVariants.{All, Stuck}

-- a frame can take the lowest free place: it passes with the others without a place higher and the placed ones lower
abbrev pub CanTakeLowest : List Timed → ℕ → List ℕ → List ℕ → ℕ → Type 0
CanTakeLowest frames bit unplaced placed own = PassesAgainst frames own (others_of own unplaced) placed bit

-- of the frames without a place it is the one of greatest number that can take the lowest free place
pub record TakesLowest (frames : List Timed) (bit : ℕ) (unplaced placed : List ℕ) (own : ℕ) : Type 0 where
  pub without_place : Contains unplaced own
  pub can_take : CanTakeLowest frames bit unplaced placed own
  pub greatest : (other : ℕ) → Contains unplaced other → own < other → ¬ (CanTakeLowest frames bit unplaced placed other)

-- an order whose places from `count` on were filled from the lowest up; the frames before are without a place, ascending
pub record FillsLowestFirst (frames : List Timed) (bit count : ℕ) (order : List ℕ) : Type 0 where
  pub names_each_once : NamesEachOnce frames order
  pub ascending : IsStrictlyIncreasing (take count order)
  pub taken : (place : ℕ) → count ≤ place → place < length order
      → TakesLowest frames bit (take (place + 1) order) (drop (place + 1) order) (slice_index order place)

-- lowest-priority-first assignment: places are filled from the lowest up until no frame is left, or none can take the
-- next place
pub record IsLowestFirst (frames : List Timed) (bit count : ℕ) (order : List ℕ) : Type 0 where
  pub fills : FillsLowestFirst frames bit count order
  pub none_can_take : (own : ℕ) → Contains (take count order) own
      → ¬ (CanTakeLowest frames bit (take count order) (drop count order) own)

-- the number of frames that the answer leaves without a place
abbrev pub remaining_count : Assigned → ℕ
remaining_count All = 0
remaining_count (Stuck remaining) = remaining
