use Rattle.std.specs.Prelude.{ℕ, ◌+◌, ◌<◌, ◌≤◌, List, length, All, Contains, nat_eq, slice_index, take, drop}
use Rattle.std.specs.List.{IsDistinct}
use Rattle.busy_period.specs.declared.timed.TheConstants.{MAX_FRAMES}
use Rattle.busy_period.specs.declared.timed.Timed.{Timed}
use Rattle.busy_period.specs.Timed.{IsInRange, frame_at}

-- the numbers name frames, at most 128 of them, each in range
pub record AreNamed (frames : List Timed) (numbers : List ℕ) : Type 0 where
  pub in_range : All IsInRange frames
  pub named : All (λ number. number < length frames) numbers
  pub few : length numbers ≤ MAX_FRAMES

-- at most 128 frames, each in range; an order of different ones; a place in it
pub record IsStage (frames : List Timed) (order : List ℕ) (place : ℕ) : Type 0 where
  pub few : length frames ≤ MAX_FRAMES
  pub in_range : All IsInRange frames
  pub named : All (λ number. number < length frames) order
  pub distinct : IsDistinct nat_eq order
  pub inside : place < length order

-- the number of the frame under test
abbrev pub own_number : List ℕ → ℕ → ℕ
own_number order place = slice_index order place

-- the frame under test
abbrev pub own_of : List Timed → List ℕ → ℕ → Timed
own_of frames order place = frame_at frames (own_number order place)

-- the numbers of the frames of higher priority
abbrev pub higher_of : List ℕ → ℕ → List ℕ
higher_of order place = take place order

-- the numbers of the frames of lower priority
abbrev pub lower_of : List ℕ → ℕ → List ℕ
lower_of order place = drop (place + 1) order

-- the same numbers, in whatever order
pub record IsSameSet (xs ys : List ℕ) : Type 0 where
  pub there : (number : ℕ) → Contains xs number → Contains ys number
  pub back : (number : ℕ) → Contains ys number → Contains xs number
