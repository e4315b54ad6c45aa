-- A placed matrix gives one place each.
use Rattle.std.proofs.Common.{◌≡◌, ◌≢◌, ℕ, ◌+◌, ◌*◌, ◌<◌, ◌≤◌, ◌⊎◌, List, length, get_or, inl, inr, sym, ◌∙◌, arith, All, AllPairs, None, Some}
use Rattle.std.proofs.lemmas.Bool.{cases_lt}
use Rattle.std.proofs.lemmas.List.{get_or_default}
use Rattle.fd_length.proofs.Sizes.{IsFdSize-from_value, fd_size_of-none}
use Rattle.pack_model.specs.Problem.{Parts, IsProblem, IsSorted}
use Rattle.container_pdu.specs.declared.header.Header.TheVariants.{NoHeader}
use Rattle.class_frame.specs.Frame.{bytes_of_items}
use Rattle.matrix_rows.specs.declared.matrix.MatrixRow.{MatrixRow}
use Rattle.placed_matrix.specs.Items.{items_in_frame}
use Rattle.placed_matrix.specs.Placed.{Placed, OneRow}
use Rattle.placed_matrix.specs.OnePlace.{OnePlace, Occupies, HeaderOccupies}
use Rattle.placed_matrix.specs.Tables.{HasRows, SamePart, SameKind, RowFits}
use Rattle.placed_matrix.proofs.PartLaws.{has_header, part_within, part_before}

-- the rows of a placed matrix fit their frames
pub rows_fit : (problem : Parts) (rows : List MatrixRow) → Placed problem rows
    → All (RowFits problem rows) rows
rows_fit problem rows placed k d lt =
    record {
      header = placed.header_kind k d lt;
      in_a_row = placed.parts_in_a_row k d lt;
      frame = placed.size_and_ticks k d lt;
      inside = placed.inside_the_part k d lt;
    }

module _ (problem : Parts) (stands : IsProblem problem) (sorted : IsSorted problem.signals problem.items)
    (rows : List MatrixRow) (one : OneRow problem.signals rows) (row_of : List ℕ)
    (has : HasRows problem.signals rows row_of)
    (kinds : AllPairs SameKind rows) (parts : AllPairs SamePart rows)
    (fits : All (RowFits problem rows) rows) where
  -- a row's signal ends within the bytes of its frame
  within_bytes : (k : ℕ) (d : MatrixRow) → k < length rows
      → (get_or rows k d).start + (get_or rows k d).bits
      ≤ 8 * bytes_of_items (items_in_frame problem rows (get_or rows k d).id)
  within_bytes k d lt =
      omega (
        arith,
        (fits k d lt).inside.below,
        part_within problem stands sorted rows one row_of has kinds parts k (get_or rows k d) lt
            (get_or_default rows k d (get_or rows k d) lt) (fits k d lt),
      )

  -- within its size
  pub within_size : (k : ℕ) (d : MatrixRow) → k < length rows
      → (get_or rows k d).start + (get_or rows k d).bits ≤ 8 * (get_or rows k d).size
  within_size k d lt =
      omega (
        arith,
        within_bytes k d lt,
        (IsFdSize-from_value (bytes_of_items (items_in_frame problem rows (get_or rows k d).id))
            (get_or rows k d).size (fits k d lt).frame.size).enough,
      )

  -- within 64 bytes
  pub within_frame : (k : ℕ) (d : MatrixRow) → k < length rows
      → (get_or rows k d).start + (get_or rows k d).bits ≤ 512
  within_frame k d lt = by (cases_lt 64 (bytes_of_items (items_in_frame problem rows (get_or rows k d).id)))
    where
      by : (64 < bytes_of_items (items_in_frame problem rows (get_or rows k d).id))
          ⊎ (bytes_of_items (items_in_frame problem rows (get_or rows k d).id) ≤ 64)
          → (get_or rows k d).start + (get_or rows k d).bits ≤ 512
      by (inl many) =
          absurd (let wrong : Some (get_or rows k d).size ≡ None = sym (fits k d lt).frame.size
          ∙ fd_size_of-none _ many in cc)
      by (inr few) = omega (arith, within_bytes k d lt, few)

  -- and outside of each header
  outside : (k : ℕ) (row : MatrixRow) → k < length rows → row ≡ get_or rows k row → RowFits problem rows row
      → (other : MatrixRow) → RowFits problem rows other → (id position : ℕ) → Occupies row id position
      → HeaderOccupies other id position → ⊥
  outside k row lt at fit other fit2 id position first second =
      by (has_header other.header) (cases_lt row.at other.at)
    where
      by : (other.header ≡ NoHeader) ⊎ (other.header ≢ NoHeader) → (row.at < other.at) ⊎ (other.at ≤ row.at)
          → ⊥
      by (inl none) _ = omega (arith, second.below, fit2.in_a_row.alone none)
      by (inr some) (inr after) = omega (arith, second.below, first.takes.from, fit.inside.from, after)
      by (inr some) (inl before) =
          omega (
            arith,
            second.from,
            first.takes.below,
            fit.inside.below,
            part_before problem stands sorted rows one row_of has kinds parts k row lt at fit other fit2
                (first.frame ∙ sym second.frame) some before,
          )

  pub OnePlace-from_Placed : Placed problem rows → OnePlace problem rows
  OnePlace-from_Placed placed = record {
    one_row = placed.one_row;
    inside = within_size;
    apart =
        λ i j d before within id position first second. placed.no_overlap i j d before
        within (first.frame ∙ sym second.frame) position first.takes second.takes;
    clear =
        λ i d lt j e lt2 id position first second. outside i (get_or rows i d) lt
        (get_or_default rows i d (get_or rows i d) lt) (fits i d lt) (get_or rows j e)
        (fits j e lt2) id position first second;
  }
