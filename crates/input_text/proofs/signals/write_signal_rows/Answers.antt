use Rattle.std.proofs.Common.{subst, sym, take}
use Rattle.std.proofs.lemmas.List.{take_all}
use Rattle.std.proofs.lemmas.List.Elements.{All-more, All-same}
use Rattle.csv_table.proofs.RoundTrip.{text_more}
use Rattle.input_text.specs.SignalsText.{ReadsBack, signal_fields}
use Rattle.input_text.proofs.signals.write_signal_rows.Goals as goal

pub loop-signal-preserved : goal.loop-signal-preserved
loop-signal-preserved c =
    let inv = c.loop-signal.invariant in
    let done = c.in_ok-write_signal.ensures in (
      done.row,
      text_more signal_fields c.args.signals.now c.loop-signal.signal-index c.signal-item.result
          c.loop-signal.out.text _ _ c.loop-signal-test.true c.signal-item.is done.text inv.1,
      All-more ReadsBack c.args.signals.now c.loop-signal.signal-index c.signal-item.result
          c.loop-signal-test.true inv.2 (subst ReadsBack c.signal-item.is done.reads_back),
    )

pub returns-clause-reads_back : goal.returns-clause-reads_back
returns-clause-reads_back c =
    All-same ReadsBack c.args.signals.now (take c.loop-signal.signal-index c.args.signals.now)
    (sym (take_all c.loop-signal.signal-index c.args.signals.now c.loop-signal-test.false))
    c.loop-signal.invariant.2
