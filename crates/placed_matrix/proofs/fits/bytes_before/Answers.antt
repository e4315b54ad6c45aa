use Rattle.std.proofs.Common.{List, ap, sym, ◌∙◌, arith, length}
use Rattle.std.proofs.lemmas.List.{take_all}
use Rattle.pack_model.specs.declared.item.Item.{Item}
use Rattle.pack_model.proofs.Laws.{tests}
use Rattle.placed_matrix.specs.Tables.{parts_before, bytes_under}
use Rattle.placed_matrix.proofs.FramesFound.{first_found, item_row, small_at}
use Rattle.placed_matrix.proofs.PartsSoFar.{header_low, item_low, part_kept, part_passed, part_elsewhere}
use Rattle.placed_matrix.proofs.fits.bytes_before.Goals as goal
use Rattle.placed_matrix.proofs.fits.bytes_before.Goals.{then-first-row+then-first-row-2, else-first-row, else-first-row-via-then-first-row+else-first-row-2, else-first-row-via-else-first-row}

pub first_row-first-requires-clause-member : goal.first_row-first-requires-clause-member
first_row-first-requires-clause-member c =
    first_found c.args.problem.now c.items-items.ensures.sorted c.args.rows.now c.args.row_of.now
    c.requires.rows c.items-items.result.now c.items-items.ensures.items c.loop-item.item-index
    c.item-item.result c.loop-item-test.true c.item-item.is
    (tests c.args.problem.now c.items-items.ensures.problem).few

pub overflow_add-bytes-then-first-row-2 : goal.overflow_add-bytes-then-first-row-2
overflow_add-bytes-then-first-row-2 c =
    let small =
    small_at c.args.problem.now c.items-items.ensures.problem c.items-items.result.now
    c.items-items.ensures.items c.loop-item.item-index c.item-item.result c.loop-item-test.true
    c.item-item.is in
    omega (
      arith,
      c.loop-item.invariant.low,
      c.bytes.ensures,
      header_low c.args.header,
      c.div_ceil.ensures,
      item_low c.item-item.result small,
      c.loop-item-test.true,
      ap length c.items-items.ensures.items,
      (tests c.args.problem.now c.items-items.ensures.problem).few_items,
    )

pub loop-item-preserved : goal.loop-item-preserved
loop-item-preserved c =
    let small =
    small_at c.args.problem.now c.items-items.ensures.problem c.items-items.result.now
    c.items-items.ensures.items c.loop-item.item-index c.item-item.result c.loop-item-test.true
    c.item-item.is in
    let row =
    item_row c.args.problem.now c.items-items.ensures.sorted c.args.rows.now c.args.row_of.now
    c.requires.rows c.items-items.result.now c.items-items.ensures.items c.loop-item.item-index
    c.item-item.result c.loop-item-test.true c.item-item.is c.first_row-first.result.now
    c.first_row-first.ensures.row in
    elim c.if-first-row.branch [
      | then-first-row+then-first-row-2 w ↦ record {
        bytes =
            w.bytes-is ∙ part_kept c.args.problem.now c.args.rows.now c.args.header c.args.row.now.id
            c.args.row.now.at c.items-items.result.now c.loop-item.item-index c.item-item.result
            c.loop-item-test.true c.item-item.is
            c.loop-item.bytes w.bytes.result w.div_ceil.result c.loop-item.invariant.bytes w.bytes.ensures
            w.div_ceil.ensures (row.id ∙ w.if-first-row.true)
            (omega (arith, row.at, w.if-first-row-2.true));
        low =
            omega (
              arith,
              w.bytes-is,
              c.loop-item.invariant.low,
              w.bytes.ensures,
              header_low c.args.header,
              w.div_ceil.ensures,
              item_low c.item-item.result small,
            );
      }
      | else-first-row w ↦ record {
        bytes = w.bytes-is ∙ c.loop-item.invariant.bytes ∙ elim w.else-first-row.branch [
          | else-first-row-via-then-first-row+else-first-row-2 v ↦
              part_passed c.args.problem.now c.args.rows.now c.args.header c.args.row.now.id c.args.row.now.at
              c.items-items.result.now c.loop-item.item-index c.item-item.result c.loop-item-test.true
              c.item-item.is (row.id ∙ v.if-first-row.true)
              (omega (arith, row.at, v.if-first-row-2.false))
          | else-first-row-via-else-first-row v ↦
              part_elsewhere c.args.problem.now c.args.rows.now c.args.header c.args.row.now.id
              c.args.row.now.at c.items-items.result.now c.loop-item.item-index c.item-item.result
              c.loop-item-test.true c.item-item.is (λ same. v.if-first-row.false (sym row.id ∙ same))
        ];
        low = omega (arith, w.bytes-is, c.loop-item.invariant.low);
      }
    ]

pub returns-clause-bytes : goal.returns-clause-bytes
returns-clause-bytes c =
    c.loop-item.invariant.bytes
    ∙ ap (λ (items : List Item). bytes_under c.args.header
    (parts_before c.args.problem.now c.args.rows.now c.args.row.now.id c.args.row.now.at items))
    (take_all c.loop-item.item-index c.items-items.result.now c.loop-item-test.false
    ∙ c.items-items.ensures.items)

pub returns-clause-low : goal.returns-clause-low
returns-clause-low c =
    omega (
      arith,
      c.loop-item.invariant.low,
      c.loop-item.auto.item-index-end,
      ap length c.items-items.ensures.items,
      (tests c.args.problem.now c.items-items.ensures.problem).few_items,
    )
