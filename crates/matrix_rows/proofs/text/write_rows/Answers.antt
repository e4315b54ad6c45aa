use Rattle.std.proofs.Common.{subst, sym, take}
use Rattle.std.proofs.lemmas.List.{take_all}
use Rattle.std.proofs.lemmas.List.Elements.{All-more, All-same}
use Rattle.csv_table.proofs.RoundTrip.{text_more}
use Rattle.matrix_rows.specs.MatrixText.{ReadsBack, row_fields}
use Rattle.matrix_rows.proofs.text.write_rows.Goals as goal

pub loop-row-preserved : goal.loop-row-preserved
loop-row-preserved c =
    let inv = c.loop-row.invariant in
    let done = c.in_ok-write_row.ensures in (
      done.row,
      text_more row_fields c.args.rows.now c.loop-row.row-index c.row-item.result c.loop-row.out.text _ _
          c.loop-row-test.true c.row-item.is done.text inv.1,
      All-more ReadsBack c.args.rows.now c.loop-row.row-index c.row-item.result c.loop-row-test.true inv.2
          (subst ReadsBack c.row-item.is done.reads_back),
    )

pub returns-clause-reads_back : goal.returns-clause-reads_back
returns-clause-reads_back c =
    All-same ReadsBack c.args.rows.now (take c.loop-row.row-index c.args.rows.now)
    (sym (take_all c.loop-row.row-index c.args.rows.now c.loop-row-test.false)) c.loop-row.invariant.2
