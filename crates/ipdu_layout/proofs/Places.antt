-- Laws of places, by where they start and end.
use Rattle.std.proofs.Common.{◌≡◌, ℕ, ◌+◌, ◌<◌, ◌≤◌, ◌⊎◌, List, length, slice_index_or, ◌*◌, max, min, All, AllPairs, Any, take, inl, inr, sym, subst, ◌∙◌, arith, get_or-take, length-take-le}
use Rattle.std.proofs.lemmas.Bool.{cases_lt}
use Rattle.std.proofs.lemmas.List.{get_or_default}
use Rattle.ipdu_layout.specs.declared.place.Place.{Place}
use Rattle.ipdu_layout.specs.Layout.{Takes, IsApart, Meets, PlacesStand}

-- two places meet where the later start is before the earlier end
pub Meets-from_bounds : (a b : Place) → max a.start b.start < min (a.start + a.bits) (b.start + b.bits)
    → Meets a b
Meets-from_bounds a b h = (
  max a.start b.start,
  record { from = omega arith; below = omega arith },
  record { from = omega arith; below = omega arith },
)

-- and only there
pub bounds-from_Meets : (a b : Place) → Meets a b
    → max a.start b.start < min (a.start + a.bits) (b.start + b.bits)
bounds-from_Meets a b h = omega (arith, h.1, h.2)

-- places one after the other are apart
pub IsApart-from_order : (a b : Place) → a.start + a.bits ≤ b.start → IsApart a b
IsApart-from_order a b h position first second = omega (arith, first, second)

-- of two places that have bits and are apart, one ends before the other starts
pub order-from_IsApart : (a b : Place) → 1 ≤ a.bits → 1 ≤ b.bits → IsApart a b
    → (a.start + a.bits ≤ b.start) ⊎ (b.start + b.bits ≤ a.start)
order-from_IsApart a b some_a some_b apart =
    by_order (cases_lt b.start (a.start + a.bits)) (cases_lt a.start (b.start + b.bits)) where
      by_order : (b.start < a.start + a.bits) ⊎ (a.start + a.bits ≤ b.start)
          → (a.start < b.start + b.bits) ⊎ (b.start + b.bits ≤ a.start)
          → (a.start + a.bits ≤ b.start) ⊎ (b.start + b.bits ≤ a.start)
      by_order (inr first) other = inl first
      by_order (inl h) (inr second) = inr second
      by_order (inl h) (inl k) =
          let m = Meets-from_bounds a b (omega arith) in absurd (apart m.0 m.1 m.2)

-- the place past a list's end, which has no positions
abbrev pub no_place : Place
no_place = record { start = 0; bits = 0 }

-- the place of a number
abbrev pub place_at : List Place → ℕ → Place
place_at places number = slice_index_or places number no_place

-- the places below a number are apart
abbrev pub ApartBelow : List Place → ℕ → Type 0
ApartBelow places number =
    (i j : ℕ) (d : Place) → i < j → j < number
    → IsApart (slice_index_or places i d) (slice_index_or places j d)

-- one more place, apart from each before it
pub ApartBelow-more : (places : List Place) (number : ℕ) → number < length places → ApartBelow places number
    → ((k : ℕ) → k < number → IsApart (place_at places k) (place_at places number))
    → ApartBelow places (number + 1)
ApartBelow-more places number within below here i j d before j_below = by_place (cases_lt j number) where
  by_place : (j < number) ⊎ (number ≤ j) → IsApart (slice_index_or places i d) (slice_index_or places j d)
  by_place (inl h) = below i j d before h
  by_place (inr h) =
      let last : j ≡ number = omega arith in
      rw (
        get_or_default places i d no_place (omega arith),
        get_or_default places j d no_place (omega arith),
        last,
      ) (here i (omega arith))

-- two places of a list that share a position are not apart
pub not_apart : (places : List Place) (k number position : ℕ) → k < number → number < length places
    → Takes (place_at places k) position → Takes (place_at places number) position → AllPairs IsApart places
    → ⊥
not_apart places k number position before within first second apart =
    apart k number no_place before within position first second

-- a place that meets one of the front meets the place of a number there
pub met_below : (places : List Place) (number : ℕ) (place : Place) → number ≤ length places
    → Any (λ other. Meets place other) (take number places)
    → (k : ℕ) × (k < number) × Meets place (place_at places k)
met_below places number place within (k, x, in_front, is, meets) =
    let short : length (take number places) ≡ number = length-take-le number places within in
    let below : k < number = omega arith in
    let read : x ≡ place_at places k =
    sym is ∙ get_or-take number places k x below ∙ get_or_default places k x no_place (omega arith) in
    (k, below, subst (λ y. Meets place y) read meets)

-- and the other way
pub Any-met_below : (places : List Place) (number : ℕ) (place : Place) (k : ℕ) → number ≤ length places
    → k < number → Meets place (place_at places k) → Any (λ other. Meets place other) (take number places)
Any-met_below places number place k within below meets =
    let short : length (take number places) ≡ number = length-take-le number places within in (
      k,
      place_at places k,
      omega arith,
      get_or-take number places k (place_at places k) below
          ∙ get_or_default places k (place_at places k) no_place (omega arith),
      meets,
    )

-- places that lie inside and are apart stand
pub PlacesStand-from_parts : (places : List Place) (bytes positions : ℕ) → positions ≡ 8 * bytes
    → All (λ place. (1 ≤ place.bits) × (place.start + place.bits ≤ positions)) places
    → AllPairs IsApart places → PlacesStand places bytes
PlacesStand-from_parts places bytes positions same inside apart = record {
  some_bit = λ k d within. (inside k d within).0;
  inside = λ k d within. omega (arith, (inside k d within).1);
  apart = apart;
}
