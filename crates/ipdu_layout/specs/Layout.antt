-- Where little-endian signals stand in an I-PDU, as AUTOSAR COM counts bit positions.
use Rattle.std.specs.Prelude.{ℕ, ◌+◌, ◌*◌, ◌<◌, ◌≤◌, List, [], ◌∷◌, take, sum, All, AllPairs}
use Rattle.std.specs.Int.{div_ceil}
use Rattle.ipdu_layout.specs.declared.place.Place.{Place}

-- a signal takes the positions from its start on, one for each of its bits
pub record Takes (place : Place) (position : ℕ) : Type 0 where
  pub from : place.start ≤ position
  pub below : position < place.start + place.bits

-- no position belongs to both
abbrev pub IsApart : Place → Place → Type 0
IsApart place other = (position : ℕ) → Takes place position → Takes other position → ⊥

-- some position belongs to both
abbrev pub Meets : Place → Place → Type 0
Meets place other = (position : ℕ) × Takes place position × Takes other position

-- each place has a bit and ends within so many bytes, and no two share a position
pub record PlacesStand (places : List Place) (bytes : ℕ) : Type 0 where
  pub some_bit : All (λ place. 1 ≤ place.bits) places
  pub inside : All (λ place. place.start + place.bits ≤ 8 * bytes) places
  pub apart : AllPairs IsApart places

-- where the signal of a number starts if they stand one after another: after the bits before it
abbrev pub start_of : List ℕ → ℕ → ℕ
start_of bits number = sum (take number bits)

-- the bytes that hold so many bits
abbrev pub bytes_of : ℕ → ℕ
bytes_of bits = div_ceil bits 8

-- the places with these starts and these numbers of bits
abbrev pub places_of : List ℕ → List ℕ → List Place
places_of (start ∷ starts) (bits ∷ others) = record { start = start; bits = bits } ∷ places_of starts others
places_of _ _ = []
