-- What a command that writes two files did to a folder.
use Rattle.std.specs.Prelude.{◌≡◌, ◌≢◌, ◌⊎◌, ℕ, List, take, Option, Some, IsSome}
use Rattle.pack_base.specs.Outside.{Files, file_at}

-- the file is as before, or holds a front of this text
abbrev pub HoldsFront : List ℕ → Option (List ℕ) → Option (List ℕ) → Type 0
HoldsFront text before now = (now ≡ before) ⊎ ((k : ℕ) × (now ≡ Some (take k text)))

-- the two files hold these texts, and all others are as before
pub record Written (first second : List ℕ) (first_text second_text : List ℕ) (before now : Files) : Type 0 where
  pub told : IsSome before → IsSome now
  pub first_whole : IsSome before → file_at now first ≡ Some first_text
  pub second_whole : IsSome before → file_at now second ≡ Some second_text
  pub others : IsSome before → (other : List ℕ) → other ≢ first → other ≢ second
      → file_at now other ≡ file_at before other

-- each of the two files is as before or holds a front of its text, the second is touched only where the first is
-- whole, and all others are as before
pub record PartWritten (first second : List ℕ) (first_text second_text : List ℕ) (before now : Files) : Type 0 where
  pub told : IsSome before → IsSome now
  pub first_front : IsSome before → HoldsFront first_text (file_at before first) (file_at now first)
  pub second_front : IsSome before → HoldsFront second_text (file_at before second) (file_at now second)
  pub in_order : IsSome before → (file_at now second ≡ file_at before second)
      ⊎ (file_at now first ≡ Some first_text)
  pub others : IsSome before → (other : List ℕ) → other ≢ first → other ≢ second
      → file_at now other ≡ file_at before other
