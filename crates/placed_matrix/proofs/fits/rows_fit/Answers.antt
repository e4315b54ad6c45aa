use Rattle.std.proofs.Common.{◌≡◌, ◌<◌, ◌≤◌, All, length, get_or, arith, ap, refl, subst, sym, ◌∙◌}
use Rattle.std.proofs.lemmas.Bool.{false≢true}
use Rattle.pack_model.specs.declared.item.Item.{Item}
use Rattle.pack_model.proofs.Laws.{tests}
use Rattle.pack_model.proofs.ItemFacts.{members_within, small_items}
use Rattle.class_frame.specs.Sums.{IsSmall, sums_of}
use Rattle.placed_matrix.specs.Frames.{identifiers_of}
use Rattle.placed_matrix.specs.Tables.{AllFound, AtOnePlace, RowFits, RowsOf}
use Rattle.placed_matrix.proofs.FirstRows.{below_row}
use Rattle.placed_matrix.proofs.FrameClasses.{labels_low, label_below, class_here, here_small}
use Rattle.placed_matrix.proofs.FrameLabels.{is_grouping}
use Rattle.placed_matrix.proofs.FramesFound.{first_found, identifier_is}
use Rattle.placed_matrix.proofs.MemberRows.{members_found, together_to, pdu_of_members, of_members, all_rows}
use Rattle.placed_matrix.proofs.fits.rows_fit.Goals as goal

pub first_row-first-requires-clause-member : goal.first_row-first-requires-clause-member
first_row-first-requires-clause-member c =
    first_found c.args.problem.now c.items-items.ensures.sorted c.args.rows.now c.args.row_of.now
    c.requires.rows c.items-items.result.now c.items-items.ensures.items c.loop-number.number
    c.index-items-number.result c.loop-number-test.true c.index-items-number.is
    (tests c.args.problem.now c.items-items.ensures.problem).few

pub class_sums-sums-requires-clause-each : goal.class_sums-sums-requires-clause-each
class_sums-sums-requires-clause-each c = ap length c.requires.labels
    ∙ (is_grouping c.args.problem.now c.args.rows.now).each ∙ sym (ap length c.items-items.ensures.items)

pub class_sums-sums-requires-clause-few : goal.class_sums-sums-requires-clause-few
class_sums-sums-requires-clause-few c =
    omega (
      arith,
      ap length c.items-items.ensures.items,
      (tests c.args.problem.now c.items-items.ensures.problem).few_items,
    )

pub class_sums-sums-requires-clause-small : goal.class_sums-sums-requires-clause-small
class_sums-sums-requires-clause-small c =
    subst (All (λ (item : Item). item.bits ≤ 512)) (sym c.items-items.ensures.items)
    (small_items c.args.problem.now c.items-items.ensures.problem)

pub class_sums-sums-requires-clause-members : goal.class_sums-sums-requires-clause-members
class_sums-sums-requires-clause-members c =
    subst (All (λ (item : Item). All (λ place. place < length c.args.problem.now.signals) item.members))
    (sym c.items-items.ensures.items)
    (members_within c.args.problem.now.signals c.args.problem.now.items c.items-items.ensures.sorted)

pub class_sums-sums-requires-clause-low : goal.class_sums-sums-requires-clause-low
class_sums-sums-requires-clause-low c =
    subst (All (λ label. label < 128)) (sym c.requires.labels)
    (labels_low c.args.problem.now c.args.rows.now c.items-items.ensures.problem)

pub bounds-sums-labels : goal.bounds-sums-labels
bounds-sums-labels c =
    label_below c.args.problem.now c.items-items.ensures.problem c.args.rows.now c.args.labels.now
    c.requires.labels c.items-items.result.now c.items-items.ensures.items c.loop-number.number
    c.loop-number-test.true

pub part_fits-requires-clause-sums : goal.part_fits-requires-clause-sums
part_fits-requires-clause-sums c =
    let id : get_or (identifiers_of c.args.problem.now c.args.rows.now) c.loop-number.number 0
    ≡ c.first_row-first.result.now.id =
    identifier_is c.args.problem.now c.items-items.ensures.sorted c.args.rows.now c.args.row_of.now
    c.requires.rows c.items-items.result.now c.items-items.ensures.items c.loop-number.number
    c.index-items-number.result c.loop-number-test.true c.index-items-number.is
    c.first_row-first.result.now c.first_row-first.ensures.row in
    c.class_sums-sums.ensures (get_or c.args.labels.now c.loop-number.number 0) _
    (label_below c.args.problem.now c.items-items.ensures.problem c.args.rows.now c.args.labels.now
    c.requires.labels c.items-items.result.now c.items-items.ensures.items c.loop-number.number
    c.loop-number-test.true)
    ∙ ap (sums_of c.args.problem.now)
    (class_here c.args.problem.now c.items-items.ensures.problem c.args.rows.now c.args.labels.now
    c.requires.labels c.items-items.result.now c.items-items.ensures.items c.loop-number.number
    c.loop-number-test.true c.first_row-first.result.now.id id)

pub part_fits-requires-clause-small : goal.part_fits-requires-clause-small
part_fits-requires-clause-small c =
    subst IsSmall (sym (c.class_sums-sums.ensures (get_or c.args.labels.now c.loop-number.number 0) _
    (label_below c.args.problem.now c.items-items.ensures.problem c.args.rows.now c.args.labels.now
    c.requires.labels c.items-items.result.now c.items-items.ensures.items c.loop-number.number
    c.loop-number-test.true)))
    (here_small c.args.problem.now c.items-items.ensures.problem c.args.rows.now c.args.labels.now
    c.requires.labels c.items-items.result.now c.items-items.ensures.items c.loop-number.number
    c.loop-number-test.true)

pub part_fits-requires-clause-found : goal.part_fits-requires-clause-found
part_fits-requires-clause-found c =
    subst (AllFound c.args.rows.now c.args.row_of.now) (sym c.as_slice.ensures)
    (members_found c.args.problem.now c.items-items.ensures.problem c.items-items.ensures.sorted
    c.args.rows.now c.requires.one c.args.row_of.now c.requires.rows c.loop-number.number
    c.index-items-number.result
    (omega (arith, c.loop-number-test.true, ap length c.items-items.ensures.items))
    (c.index-items-number.is ∙ ap (λ items. get_or items c.loop-number.number c.index-items-number.result)
    c.items-items.ensures.items)
    (tests c.args.problem.now c.items-items.ensures.problem).few)

pub part_fits-requires-clause-place : goal.part_fits-requires-clause-place
part_fits-requires-clause-place c =
    subst (RowsOf (λ row. AtOnePlace row c.first_row-first.result.now) c.args.rows.now c.args.row_of.now)
    (sym c.as_slice.ensures)
    (subst (λ r. RowsOf (λ row. AtOnePlace row r) c.args.rows.now c.args.row_of.now
    c.index-items-number.result.members) (sym c.first_row-first.ensures.row)
    (together_to c.args.problem.now c.items-items.ensures.problem c.items-items.ensures.sorted c.args.rows.now
    c.requires.one c.args.row_of.now c.requires.rows c.loop-number.number c.index-items-number.result
    (omega (arith, c.loop-number-test.true, ap length c.items-items.ensures.items))
    (c.index-items-number.is ∙ ap (λ items. get_or items c.loop-number.number c.index-items-number.result)
    c.items-items.ensures.items)
    c.requires.parts c.first_row-first.result.now))

pub part_fits-requires-clause-pdu : goal.part_fits-requires-clause-pdu
part_fits-requires-clause-pdu c =
    subst (RowsOf (λ row. row.pdu ≡ c.first_row-first.result.now.pdu) c.args.rows.now c.args.row_of.now)
    (sym c.as_slice.ensures)
    (pdu_of_members c.args.problem.now c.items-items.ensures.problem c.items-items.ensures.sorted
    c.args.rows.now c.requires.one c.args.row_of.now c.requires.rows c.loop-number.number
    c.index-items-number.result
    (omega (arith, c.loop-number-test.true, ap length c.items-items.ensures.items))
    (c.index-items-number.is ∙ ap (λ items. get_or items c.loop-number.number c.index-items-number.result)
    c.items-items.ensures.items)
    c.first_row-first.result.now c.first_row-first.ensures.row)

pub returns-then-not-part_fits : goal.returns-then-not-part_fits
returns-then-not-part_fits c = (
  λ t. absurd (false≢true t),
  λ fit.
      sym c.if-not-part_fits.true
      ∙ c.part_fits.ensures.1 (subst (RowsOf
      (RowFits c.args.problem.now c.args.rows.now) c.args.rows.now c.args.row_of.now)
      (sym c.as_slice.ensures)
      (of_members c.args.problem.now c.items-items.ensures.problem c.items-items.ensures.sorted
      c.args.rows.now c.requires.one c.args.row_of.now c.requires.rows c.loop-number.number
      c.index-items-number.result
      (omega (arith, c.loop-number-test.true, ap length c.items-items.ensures.items))
      (c.index-items-number.is ∙ ap (λ items. get_or items c.loop-number.number
      c.index-items-number.result) c.items-items.ensures.items)
      (RowFits c.args.problem.now c.args.rows.now) fit)),
)

pub loop-number-preserved : goal.loop-number-preserved
loop-number-preserved c =
    below_row c.items-items.result.now c.loop-number.number c.index-items-number.result
    (λ (item : Item). RowsOf (RowFits c.args.problem.now c.args.rows.now) c.args.rows.now
    c.args.row_of.now item.members)
    c.loop-number-test.true c.index-items-number.is c.loop-number.invariant
    (subst (RowsOf (RowFits c.args.problem.now c.args.rows.now) c.args.rows.now c.args.row_of.now)
    c.as_slice.ensures (c.part_fits.ensures.0 c.if-not-part_fits.false))

pub returns : goal.returns
returns c = (
  λ _. all_rows c.args.problem.now c.items-items.ensures.problem c.items-items.ensures.sorted c.args.rows.now
      c.requires.one c.args.row_of.now c.requires.rows (RowFits c.args.problem.now c.args.rows.now)
      (subst (All (λ item. RowsOf
      (RowFits c.args.problem.now c.args.rows.now) c.args.rows.now c.args.row_of.now item.members))
      c.items-items.ensures.items
      (λ k d lt. c.loop-number.invariant k d (omega (arith, lt, c.loop-number-test.false)))),
  λ _. refl,
)
