-- Signals of one frame are apart exactly where their positions among those of all frames are.
use Rattle.std.proofs.Common.{◌≡◌, ℕ, ◌+◌, ◌-◌, ◌*◌, ◌<◌, ◌≤◌, ◌⊎◌, List, length, map, get_or, slice_index, All, AllPairs, inl, inr, sym, ap, subst, ◌∙◌, arith}
use Rattle.std.proofs.lemmas.Bool.{cases_eq}
use Rattle.std.proofs.lemmas.List.{get_or-map, get_or_default, length-map}
use Rattle.ipdu_layout.specs.declared.place.Place.{Place}
use Rattle.ipdu_layout.specs.Layout.{IsApart}
use Rattle.ipdu_layout.proofs.Places.{place_at, no_place, ApartBelow}
use Rattle.pack_model.proofs.Laws.{element}
use Rattle.matrix_rows.specs.declared.matrix.MatrixRow.{MatrixRow}
use Rattle.placed_matrix.specs.Placed.{place_of}
use Rattle.placed_matrix.specs.Tables.{LabelsApart, place_among}

-- the place of the row of a number
pub row_place : (f : MatrixRow → Place) (rows : List MatrixRow) (i : ℕ) (row : MatrixRow) → i < length rows
    → row ≡ get_or rows i row → place_at (map f rows) i ≡ f row
row_place f rows i row lt at = get_or-map f rows i row no_place lt ∙ ap f (sym at)

-- what holds of two rows by their numbers holds of the rows
pub both : (rows : List MatrixRow) (i j : ℕ) (row other : MatrixRow) (P : MatrixRow → MatrixRow → Type 0)
    → row ≡ get_or rows i row → other ≡ get_or rows j row → P (get_or rows i row) (get_or rows j row)
    → P row other
both rows i j row other P e f h =
    subst (λ r. P r other) (sym e) (subst (λ o. P (get_or rows i row) o) (sym f) h)

module _ (label_of : List ℕ) (rows : List MatrixRow) where
  -- two rows of one frame whose places among all are apart
  apart_within : (row other : MatrixRow) → row.id ≡ other.id
      → IsApart (place_among label_of row) (place_among label_of other)
      → IsApart (place_of row) (place_of other)
  apart_within row other same apart position first second =
      let one : slice_index label_of row.id ≡ slice_index label_of other.id =
      ap (slice_index label_of) same in
      apart (512 * slice_index label_of row.id + position)
      (record { from = omega (arith, first.from); below = omega (arith, first.below) })
      (record { from = omega (arith, second.from, one); below = omega (arith, second.below, one) })

  apart_among : (row other : MatrixRow) → row.start + row.bits ≤ 512 → other.start + other.bits ≤ 512
      → (slice_index label_of row.id ≡ slice_index label_of other.id → row.id ≡ other.id)
      → (row.id ≡ other.id → IsApart (place_of row) (place_of other))
      → IsApart (place_among label_of row) (place_among label_of other)
  apart_among row other row_in other_in tells apart position first second =
      by (cases_eq (slice_index label_of row.id) (slice_index label_of other.id))
    where
      by : (slice_index label_of row.id ≡ slice_index label_of other.id)
          ⊎ (slice_index label_of row.id ≡ slice_index label_of other.id → ⊥) → ⊥
      by (inl same) =
          apart (tells same) (position - 512 * slice_index label_of row.id)
          (record { from = omega (arith, first.from); below = omega (arith, first.below, first.from) })
          (record {
            from = omega (arith, second.from, same);
            below = omega (arith, second.below, second.from, same);
          })
      by (inr differ) = differ (omega (arith, first.from, first.below, second.from, second.below))

  -- the answer yes
  pub apart_in_frames : ApartBelow (map (place_among label_of) rows) (length rows)
      → AllPairs (λ row other. row.id ≡ other.id → IsApart (place_of row) (place_of other)) rows
  apart_in_frames apart i j d before within same =
      let in_map : j < length (map (place_among label_of) rows) = simp length-map within in
      apart_within (get_or rows i d) (get_or rows j d) same
      (subst (λ p. IsApart p (place_among label_of (get_or rows j d)))
      (get_or-map (place_among label_of) rows i d no_place (omega arith))
      (subst (λ p. IsApart (get_or (map (place_among label_of) rows) i no_place) p)
      (get_or-map (place_among label_of) rows j d no_place within) (apart i j no_place before within)))

  -- the answer no
  pub apart_in_all : LabelsApart label_of rows → All (λ row. row.start + row.bits ≤ 512) rows
      → AllPairs (λ row other. row.id ≡ other.id → IsApart (place_of row) (place_of other)) rows
      → AllPairs IsApart (map (place_among label_of) rows)
  apart_in_all labels inside apart i j d before within =
      let late : j < length rows = simp length-map at within in
      let row = element rows i (omega arith) in
      let other = element rows j late in
      let at_row : get_or (map (place_among label_of) rows) i d ≡ place_among label_of row.0 =
      get_or-map (place_among label_of) rows i row.0 d (omega arith)
      ∙ ap (place_among label_of) (sym row.1) in
      let at_other : get_or (map (place_among label_of) rows) j d ≡ place_among label_of other.0 =
      get_or-map (place_among label_of) rows j other.0 d late ∙ ap (place_among label_of) (sym other.1) in
      let one : get_or rows j row.0 ≡ other.0 = get_or_default rows j row.0 other.0 late ∙ sym other.1 in
      subst (λ p. IsApart p (get_or (map (place_among label_of) rows) j d)) (sym at_row)
      (subst (λ p. IsApart (place_among label_of row.0) p) (sym at_other)
      (apart_among row.0 other.0
      (subst (λ (r : MatrixRow). r.start + r.bits ≤ 512) (sym row.1) (inside i row.0 (omega arith)))
      (subst (λ (r : MatrixRow). r.start + r.bits ≤ 512) (sym other.1) (inside j other.0 late))
      (both rows i j row.0 other.0
      (λ r o. slice_index label_of r.id ≡ slice_index label_of o.id → r.id ≡ o.id) row.1 (sym one)
      (labels.apart i j row.0 (omega arith) late))
      (both rows i j row.0 other.0 (λ r o. r.id ≡ o.id → IsApart (place_of r) (place_of o)) row.1 (sym one)
      (apart i j row.0 before late))))
