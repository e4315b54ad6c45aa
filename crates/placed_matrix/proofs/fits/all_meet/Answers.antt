use Rattle.std.proofs.Common.{get_or, slice_index, subst, ◌∙◌}
use Rattle.std.proofs.lemmas.List.{get_or_default}
use Rattle.matrix_rows.specs.declared.matrix.MatrixRow.{MatrixRow}
use Rattle.placed_matrix.specs.Tables.{MeetsFigures}
use Rattle.placed_matrix.proofs.FirstRows.{below_row}
use Rattle.placed_matrix.proofs.fits.all_meet.Goals as goal

pub loop-place-preserved : goal.loop-place-preserved
loop-place-preserved c =
    below_row c.args.places.now c.loop-place.place-index (get_or c.args.places.now c.loop-place.place-index 0)
    (λ place. (d : MatrixRow)
    → MeetsFigures c.args.network.now
    (get_or c.args.rows.now (slice_index c.args.row_of.now place) d) c.args.figures)
    c.loop-place-test.true (get_or_default c.args.places.now c.loop-place.place-index 0
    (get_or c.args.places.now c.loop-place.place-index 0) c.loop-place-test.true)
    c.loop-place.invariant
    (λ d. subst (λ row. MeetsFigures c.args.network.now row c.args.figures)
    (c.index-rows-row_of.is ∙ get_or_default c.args.rows.now
    (slice_index c.args.row_of.now (get_or c.args.places.now c.loop-place.place-index 0))
    c.index-rows-row_of.result d (c.requires.found c.loop-place.place-index 0 c.loop-place-test.true).1)
    (c.meets_figures.ensures.0 c.if-not-meets_figures.false))
