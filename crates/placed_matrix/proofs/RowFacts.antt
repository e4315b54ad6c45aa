-- What a row meets is that it fits its frame.
use Rattle.std.proofs.Common.{◌≡◌, ℕ, ◌+◌, ◌*◌, ◌≤◌, List, sym, ap, subst, ◌∙◌, Option, None, Some, refl}
use Rattle.fd_length.specs.Size.{fd_size_of}
use Rattle.pack_model.specs.Problem.{Parts}
use Rattle.container_pdu.specs.Bytes.{header_bytes}
use Rattle.class_frame.specs.Frame.{header_of_items, bytes_of_items}
use Rattle.placed_matrix.specs.declared.fits.PartFigures.{PartFigures}
use Rattle.matrix_rows.specs.declared.matrix.MatrixRow.{MatrixRow}
use Rattle.placed_matrix.specs.Items.{items_in_frame}
use Rattle.placed_matrix.specs.Placed.{part_bytes}
use Rattle.placed_matrix.specs.Tables.{AtOnePlace, MeetsFigures, RowFits, RowMeets, bytes_of_part, bytes_under, parts_before}

module _ (problem : Parts) (rows : List MatrixRow) (row : MatrixRow) (bytes part before : ℕ)
    (bytes_is : bytes ≡ bytes_of_items (items_in_frame problem rows row.id))
    (part_is : part ≡ bytes_of_part problem.signals bytes row.pdu)
    (before_is : before ≡ bytes_under row.header (parts_before problem rows row.id row.at problem.items))
    (header : row.header ≡ header_of_items (items_in_frame problem rows row.id)) where
  whole_part : part ≡ part_bytes problem rows row.id row.pdu
  whole_part = part_is ∙ ap (λ n. bytes_of_part problem.signals n row.pdu) bytes_is ∙ by row.pdu
    where
      by : (o : Option ℕ) → bytes_of_part problem.signals
          (bytes_of_items (items_in_frame problem rows row.id)) o ≡ part_bytes problem rows row.id o
      by None = refl
      by (Some pdu) = refl

  under : before ≡ bytes_under (header_of_items (items_in_frame problem rows row.id))
      (parts_before problem rows row.id row.at problem.items)
  under = before_is ∙ ap (λ h. bytes_under h (parts_before problem rows row.id row.at problem.items)) header

  pub fits_from_meets : RowMeets problem.network row bytes part before → RowFits problem rows row
  fits_from_meets meets = record {
    header = header;
    in_a_row =
        record {
          alone = meets.begins.alone;
          among = λ some. meets.begins.among some
              ∙ ap (λ n. header_bytes row.header + n) under;
        };
    frame = record { size = ap fd_size_of (sym bytes_is) ∙ meets.size; ticks = meets.ticks };
    inside =
        record {
          from = meets.inside.from;
          below = subst (λ n. row.start + row.bits ≤ 8 * (row.at + n)) whole_part meets.inside.below;
        };
  }

  pub meets_from_fits : RowFits problem rows row → RowMeets problem.network row bytes part before
  meets_from_fits fits = record {
    size = ap fd_size_of bytes_is ∙ fits.frame.size;
    ticks = fits.frame.ticks;
    inside =
        record {
          from = fits.inside.from;
          below = subst (λ n. row.start + row.bits ≤ 8 * (row.at + n)) (sym whole_part) fits.inside.below;
        };
    begins =
        record {
          alone = fits.in_a_row.alone;
          among = λ some. fits.in_a_row.among some
              ∙ ap (λ n. header_bytes row.header + n) (sym under);
        };
  }

-- the rows of one part meet its figures where they fit
module _ (problem : Parts) (rows : List MatrixRow) (first : MatrixRow) (figures : PartFigures)
    (header : figures.header ≡ header_of_items (items_in_frame problem rows first.id))
    (frame : figures.frame ≡ bytes_of_items (items_in_frame problem rows first.id))
    (part : figures.part ≡ bytes_of_part problem.signals figures.frame first.pdu)
    (before : figures.before ≡ bytes_under figures.header
    (parts_before problem rows first.id first.at problem.items))
    (row : MatrixRow) (place : AtOnePlace row first) (pdu : row.pdu ≡ first.pdu) where
  frame_is : figures.frame ≡ bytes_of_items (items_in_frame problem rows row.id)
  frame_is = frame ∙ ap (λ id. bytes_of_items (items_in_frame problem rows id)) (sym place.id)

  part_of_row : figures.part ≡ bytes_of_part problem.signals figures.frame row.pdu
  part_of_row = part ∙ ap (bytes_of_part problem.signals figures.frame) (sym pdu)

  header_is : figures.header ≡ header_of_items (items_in_frame problem rows row.id)
  header_is = header ∙ ap (λ id. header_of_items (items_in_frame problem rows id)) (sym place.id)

  before_row : row.header ≡ figures.header
      → figures.before ≡ bytes_under row.header (parts_before problem rows row.id row.at problem.items)
  before_row same =
      before
      ∙ ap (λ h. bytes_under h (parts_before problem rows first.id first.at problem.items)) (sym same)
      ∙ ap (λ id. bytes_under row.header (parts_before problem rows id first.at problem.items)) (sym place.id)
      ∙ ap (λ at. bytes_under row.header (parts_before problem rows row.id at problem.items)) (sym place.at)

  pub fits_from_figures : MeetsFigures problem.network row figures → RowFits problem rows row
  fits_from_figures meets =
      fits_from_meets problem rows row figures.frame figures.part figures.before frame_is part_of_row
      (before_row meets.header) (meets.header ∙ header_is) meets.meets

  pub figures_from_fits : RowFits problem rows row → MeetsFigures problem.network row figures
  figures_from_fits fits =
      let same : row.header ≡ figures.header = fits.header ∙ sym header_is in
      record {
        header = same;
        meets = meets_from_fits problem rows row figures.frame figures.part
            figures.before frame_is part_of_row (before_row same) fits.header fits;
      }
