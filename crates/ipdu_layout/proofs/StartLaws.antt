-- Laws of signals laid one after another.
use Rattle.std.proofs.Common.{◌≡◌, ℕ, ◌+◌, ◌<◌, ◌≤◌, suc, zero, List, [], ◌∷◌, length, slice_index, slice_index_or, take, sum, All, refl, ap, arith}
use Rattle.std.proofs.lemmas.List.{take-take}
use Rattle.std.proofs.lemmas.List.Sums.{sum_by_more, sum_by-le, sum_by-take-le, sum_by_more_le}
use Rattle.std.proofs.lemmas.Grind.{div_ceil_times}
use Rattle.ipdu_layout.specs.declared.place.Place.{Place}
use Rattle.ipdu_layout.specs.Layout.{PlacesStand, start_of, bytes_of, places_of}
use Rattle.ipdu_layout.proofs.Places.{IsApart-from_order}

-- the next signal starts after the bits of this one
pub start_of-more : (bits : List ℕ) (number : ℕ) → number < length bits
    → start_of bits (number + 1) ≡ start_of bits number + slice_index bits number
start_of-more bits number within = sum_by_more (λ x. x) bits number 0 within

-- a signal ends before each later one starts
pub start_of-after : (bits : List ℕ) (number later : ℕ) → number < later → later < length bits
    → start_of bits number + slice_index bits number ≤ start_of bits later
start_of-after bits number later before within =
    let shorter = sum_by-take-le (λ x. x) (take later bits) (number + 1) in
    let same = take-take (number + 1) later bits (omega arith) in
    let step = start_of-more bits number (omega arith) in
    omega (arith, rw same at shorter)

-- the place of a number among these
pub places_of-at : (starts bits : List ℕ) (number : ℕ) (d : Place) → number < length starts
    → number < length bits → slice_index_or (places_of starts bits) number d
    ≡ record { start = slice_index starts number; bits = slice_index bits number }
places_of-at [] bits number d within second = absurd (omega arith)
places_of-at (start ∷ starts) [] number d within second = absurd (omega arith)
places_of-at (start ∷ starts) (width ∷ bits) zero d within second = refl
places_of-at (start ∷ starts) (width ∷ bits) (suc number) d within second =
    places_of-at starts bits number d (omega arith) (omega arith)

-- there are as many places as signals
pub length-places_of : (starts bits : List ℕ) → length starts ≡ length bits
    → length (places_of starts bits) ≡ length bits
length-places_of [] [] same = refl
length-places_of [] (width ∷ bits) same = absurd (omega arith)
length-places_of (start ∷ starts) [] same = absurd (omega arith)
length-places_of (start ∷ starts) (width ∷ bits) same = ap suc (length-places_of starts bits (omega arith))

-- signals laid one after another stand within the bytes that hold all their bits
pub PlacesStand-sequence : (starts bits : List ℕ) → length starts ≡ length bits
    → All (λ width. (1 ≤ width) × (width ≤ 512)) bits
    → ((k : ℕ) → k < length starts → slice_index starts k ≡ start_of bits k)
    → PlacesStand (places_of starts bits) (bytes_of (sum bits))
PlacesStand-sequence starts bits same in_range at = record {
  some_bit = λ k d within. let short = length-places_of starts bits same in
      rw (places_of-at starts bits k d (omega arith) (omega arith)) (in_range k 0 (omega arith)).0;
  inside = λ k d within. let short = length-places_of starts bits same in
      rw (places_of-at starts bits k d (omega arith) (omega arith), at k (omega arith))
      (omega (
        arith,
        sum_by_more_le (λ x. x) bits k 0 (omega arith),
        (div_ceil_times (sum bits) 8 (omega arith)).0,
      ));
  apart = λ i j d before within. let short = length-places_of starts bits same in
      rw (
        places_of-at starts bits i d (omega arith) (omega arith),
        places_of-at starts bits j d (omega arith) (omega arith),
      )
      (IsApart-from_order _ _ (rw (at i (omega arith), at j (omega arith))
      (start_of-after bits i j before (omega arith))));
}

-- at most 512 signals of at most 512 bits each have no more bits than that
pub sum-widths : (bits : List ℕ) → length bits ≤ 512 → All (λ width. (1 ≤ width) × (width ≤ 512)) bits
    → sum bits ≤ 262144
sum-widths bits few in_range =
    let most = sum_by-le (λ x. x) 512 bits (λ k d within. (in_range k d within).1) in omega arith
