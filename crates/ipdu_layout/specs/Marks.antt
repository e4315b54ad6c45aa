-- Marks at positions, by which places are told apart in one pass.
use Rattle.std.specs.Prelude.{ℕ, Bool, false, List, ◌⊎◌, slice_index_or, IsTrue}
use Rattle.ipdu_layout.specs.declared.place.Place.{Place}
use Rattle.ipdu_layout.specs.Layout.{Takes}

-- a position has a mark
abbrev pub IsMarked : List Bool → ℕ → Type 0
IsMarked marks position = IsTrue (slice_index_or marks position false)

-- none of a place's positions had a mark, and now they have one too
pub record MarksPlace (place : Place) (old new : List Bool) : Type 0 where
  pub free : (position : ℕ) → Takes place position → IsMarked old position → ⊥
  pub kept : (position : ℕ) → IsMarked old position → IsMarked new position
  pub taken : (position : ℕ) → Takes place position → IsMarked new position
  pub only : (position : ℕ) → IsMarked new position → IsMarked old position ⊎ Takes place position

-- one of a place's positions has a mark
abbrev pub MeetsMark : Place → List Bool → Type 0
MeetsMark place marks = (position : ℕ) × Takes place position × IsMarked marks position
