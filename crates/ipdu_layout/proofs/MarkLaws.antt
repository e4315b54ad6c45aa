-- Laws of the marks at positions.
use Rattle.std.proofs.Common.{◌≡◌, ℕ, ◌+◌, ◌<◌, ◌≤◌, ◌⊎◌, Bool, false, List, length, replicate, slice_index_or, AllPairs, inl, inr, sym, ◌∙◌, arith}
use Rattle.std.proofs.lemmas.List.{get_or-replicate, get_or_past, length-replicate}
use Rattle.std.proofs.lemmas.Bool.{cases_lt, false≢true}
use Rattle.ipdu_layout.specs.declared.place.Place.{Place}
use Rattle.ipdu_layout.specs.Layout.{Takes, IsApart}
use Rattle.ipdu_layout.specs.Marks.{IsMarked, MarksPlace, MeetsMark}
use Rattle.ipdu_layout.proofs.Places.{place_at, ApartBelow, ApartBelow-more, not_apart}

-- the marks are those of the places below a number, which are apart
pub record MarksBelow (positions : ℕ) (places : List Place) (number : ℕ) (marks : List Bool) : Type 0 where
  pub sized : length marks ≡ positions
  pub sound : (position : ℕ) → IsMarked marks position
      → (k : ℕ) × (k < number) × Takes (place_at places k) position
  pub complete : (k position : ℕ) → k < number → Takes (place_at places k) position → IsMarked marks position
  pub apart : ApartBelow places number

-- one more place
pub MarksBelow-more : (positions : ℕ) (places : List Place) (number : ℕ) (old new : List Bool)
    → number < length places → length new ≡ length old → MarksBelow positions places number old
    → MarksPlace (place_at places number) old new → MarksBelow positions places (number + 1) new
MarksBelow-more positions places number old new within same below here = record {
  sized = same ∙ below.sized;
  sound = λ position marked. sound_by position (here.only position marked);
  complete = λ k position before takes. complete_by k position takes (cases_lt k number) before;
  apart = ApartBelow-more places number within below.apart (λ k before position first second.
      here.free position second (below.complete k position before first));
} where
  sound_by : (position : ℕ) → IsMarked old position ⊎ Takes (place_at places number) position
      → (k : ℕ) × (k < number + 1) × Takes (place_at places k) position
  sound_by position (inl marked) =
      let found = below.sound position marked in (found.0, omega (arith, found.1), found.2)
  sound_by position (inr takes) = (number, omega arith, takes)

  complete_by : (k position : ℕ) → Takes (place_at places k) position → (k < number) ⊎ (number ≤ k)
      → k < number + 1 → IsMarked new position
  complete_by k position takes (inl h) before = here.kept position (below.complete k position h takes)
  complete_by k position takes (inr h) before =
      let last : k ≡ number = omega arith in
      here.taken position (rw last at takes)

-- a place that meets a mark is not apart from those before it
pub not_apart_by_mark : (positions : ℕ) (places : List Place) (number : ℕ) (marks : List Bool)
    → number < length places → MarksBelow positions places number marks
    → MeetsMark (place_at places number) marks → AllPairs IsApart places → ⊥
not_apart_by_mark positions places number marks within below meets =
    let found = below.sound meets.0 meets.2 in
    not_apart places found.0 number meets.0 found.1 within found.2 meets.1

-- at first there is no mark
pub MarksBelow-none : (positions : ℕ) (places : List Place)
    → MarksBelow positions places 0 (replicate positions false)
MarksBelow-none positions places = record {
  sized = length-replicate positions false;
  sound =
      λ position marked. absurd (false≢true (sym (unmarked position (cases_lt position positions)) ∙ marked));
  complete = λ k position before takes. absurd (omega arith);
  apart = λ i j d before below. absurd (omega arith);
} where
  unmarked : (position : ℕ) → (position < positions) ⊎ (positions ≤ position)
      → slice_index_or (replicate positions false) position false ≡ false
  unmarked position (inl h) = get_or-replicate positions position false false h
  unmarked position (inr h) =
      get_or_past (replicate positions false) position false (omega (arith, length-replicate positions false))
