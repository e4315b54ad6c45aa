-- Chains of times that climb by a demand.
use Rattle.std.specs.Prelude.{◌≡◌, ℕ, ◌+◌, ◌-◌, ◌<◌, ◌≤◌, ◌^◌, List, length, slice_index}

-- the last time of a chain, 0 of none
abbrev pub last_of : List ℕ → ℕ
last_of times = slice_index times (length times - 1)

-- a chain from a time: it begins with it, each further time is at most the demand at the one before, and none is above
-- 2^45
pub record IsChain (demand : ℕ → ℕ) (first : ℕ) (times : List ℕ) : Type 0 where
  pub some : 1 ≤ length times
  pub begins : slice_index times 0 ≡ first
  pub climbs : (k : ℕ) → k + 1 < length times → slice_index times (k + 1) ≤ demand (slice_index times k)
  pub low : (k : ℕ) → k < length times → slice_index times k ≤ 2 ^ 45

-- the climb from a time up to another: it begins with the one, each further time is the demand at the one before, and
-- the last is the first that reaches the other
pub record IsClimb (demand : ℕ → ℕ) (first until : ℕ) (times : List ℕ) : Type 0 where
  pub some : 1 ≤ length times
  pub begins : slice_index times 0 ≡ first
  pub climbs : (k : ℕ) → k + 1 < length times → slice_index times (k + 1) ≡ demand (slice_index times k)
  pub before : (k : ℕ) → k + 1 < length times → slice_index times k < until
  pub reaches : until ≤ last_of times

-- the least time that, with so much added, is above a limit
abbrev pub first_above : ℕ → ℕ → ℕ
first_above limit added = limit + 1 - added
