use Rattle.std.proofs.Common.{ap, ◌∙◌}
use Rattle.std.proofs.lemmas.Result.{IfOk-weaker}
use Rattle.input_text.specs.SignalsText.{signals_of}
use Rattle.csv_table.proofs.RoundTrip.{written}
use Rattle.input_text.proofs.SignalLaws.{signals_back}
use Rattle.input_text.proofs.signals.write_signals.Goals as goal

pub returns-clause-exact : goal.returns-clause-exact
returns-clause-exact c =
    IfOk-weaker c.finish.result _ _
    (λ v e. written v.items _ _ _ _ _ e c.in_ok-write_signal_rows.ensures.text c.in_ok-row.ensures.text
    c.new-out.ensures.text) c.finish.ensures

pub returns-clause-reads_back : goal.returns-clause-reads_back
returns-clause-reads_back c =
    IfOk-weaker c.finish.result _ _ (λ v e.
    ap signals_of (written v.items _ _ _ _ _ e c.in_ok-write_signal_rows.ensures.text c.in_ok-row.ensures.text
    c.new-out.ensures.text)
    ∙ signals_back c.args.signals.now c.requires.few c.in_ok-write_signal_rows.ensures.reads_back)
    c.finish.ensures
