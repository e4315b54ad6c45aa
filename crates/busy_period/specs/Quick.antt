use Rattle.std.specs.Prelude.{ℕ, ◌*◌, ◌<◌, ◌≤◌, ◌^◌, List, length, slice_index}
use Rattle.busy_period.specs.declared.timed.Timed.{Timed}
use Rattle.busy_period.specs.Timed.{frame_at}

-- for each frame of these numbers the inverse of its period, in parts of 2^64 and rounded down
pub record AreInverses (frames : List Timed) (numbers inverses : List ℕ) : Type 0 where
  pub many : length numbers ≤ length inverses
  pub below : (index : ℕ) → index < length numbers
      → slice_index inverses index * (frame_at frames (slice_index numbers index)).period < 2 ^ 64
