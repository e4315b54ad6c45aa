use Rattle.std.specs.Prelude.{ℕ, ◌<◌, ◌≤◌, not, List, length, All, Contains, nat_eq}
use Rattle.std.specs.List.{IsDistinct, filter, list_any, range_with_len}
use Rattle.busy_period.specs.declared.timed.Timed.{Timed}
use Rattle.response_test.specs.Frame.{PassesAgainst, FramePasses}

-- a list of numbers names each frame once
pub record NamesEachOnce (frames : List Timed) (numbers : List ℕ) : Type 0 where
  pub named : All (λ number. number < length frames) numbers
  pub distinct : IsDistinct nat_eq numbers
  pub each : (number : ℕ) → number < length frames → Contains numbers number

-- an order of all frames in which each passes the written test at its place
pub record OrderPasses (frames : List Timed) (bit : ℕ) (order : List ℕ) : Type 0 where
  pub names_each_once : NamesEachOnce frames order
  pub passes : (place : ℕ) → place < length order → FramePasses frames order place bit

-- the other ones of some frames
abbrev pub others_of : ℕ → List ℕ → List ℕ
others_of own members = filter (λ number. not (nat_eq own number)) members

-- the frames that are not among some
abbrev pub remaining_of : List Timed → List ℕ → List ℕ
remaining_of frames members = filter (λ number. not (list_any (nat_eq number) members)) (range_with_len 0 (length frames))

-- a failing set: some frames, each of which fails with the others of them higher and all remaining frames lower
pub record FailSet (frames : List Timed) (bit : ℕ) (members : List ℕ) : Type 0 where
  pub some : 1 ≤ length members
  pub named : All (λ number. number < length frames) members
  pub distinct : IsDistinct nat_eq members
  pub fails : (own : ℕ) → Contains members own
      → ¬ (PassesAgainst frames own (others_of own members) (remaining_of frames members) bit)
