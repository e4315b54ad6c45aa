use Rattle.std.proofs.Common.{List, arith, subst, sym, get_or, slice_index}
use Rattle.pack_model.specs.declared.network.Network.{Network}
use Rattle.pack_model.specs.declared.item.Item.{Item}
use Rattle.class_frame.proofs.Headers.{bytes_of_small}
use Rattle.placed_matrix.specs.declared.fits.PartFigures.{PartFigures}
use Rattle.placed_matrix.specs.Items.{items_in_frame}
use Rattle.placed_matrix.specs.Tables.{MeetsFigures}
use Rattle.placed_matrix.proofs.RowFacts.{fits_from_figures, figures_from_fits}
use Rattle.placed_matrix.proofs.fits.part_fits.Goals as goal

pub part_bytes-part-requires : goal.part_bytes-part-requires
part_bytes-part-requires c =
    let items : List Item = items_in_frame c.args.problem.now c.args.rows.now c.args.first.now.id in
    omega (
      arith,
      c.frame_bytes-frame.ensures c.args.problem.now items c.requires.sums,
      bytes_of_small c.args.problem.now items c.args.sums c.requires.sums c.requires.small,
    )

pub returns : goal.returns
returns c =
    let figures : PartFigures =
    record {
      header = c.header-header.result;
      frame = c.frame_bytes-frame.result;
      part = c.part_bytes-part.result;
      before = c.bytes_before-before.result;
    } in
    let header =
    c.header-header.ensures c.args.problem.now
    (items_in_frame c.args.problem.now c.args.rows.now c.args.first.now.id) c.requires.sums in
    let frame =
    c.frame_bytes-frame.ensures c.args.problem.now
    (items_in_frame c.args.problem.now c.args.rows.now c.args.first.now.id) c.requires.sums in (
      λ t k e inside d.
          fits_from_figures c.args.problem.now c.args.rows.now c.args.first.now figures header frame
          c.part_bytes-part.ensures.part c.bytes_before-before.ensures.bytes
          (get_or c.args.rows.now (slice_index c.args.row_of.now (get_or c.args.places.now k e)) d)
          (c.requires.place k e inside d) (c.requires.pdu k e inside d)
          (subst (λ (n : Network). MeetsFigures n
          (get_or c.args.rows.now (slice_index c.args.row_of.now (get_or c.args.places.now k e)) d)
          figures) c.network.ensures.network (c.all_meet.ensures.0 t k e inside d)),
      λ fit. c.all_meet.ensures.1 (λ k e inside d.
          subst (λ (n : Network). MeetsFigures n
          (get_or c.args.rows.now (slice_index c.args.row_of.now (get_or c.args.places.now k e)) d)
          figures) (sym c.network.ensures.network)
          (figures_from_fits c.args.problem.now c.args.rows.now c.args.first.now figures header frame
          c.part_bytes-part.ensures.part c.bytes_before-before.ensures.bytes
          (get_or c.args.rows.now (slice_index c.args.row_of.now (get_or c.args.places.now k e)) d)
          (c.requires.place k e inside d) (c.requires.pdu k e inside d) (fit k e inside d))),
    )
