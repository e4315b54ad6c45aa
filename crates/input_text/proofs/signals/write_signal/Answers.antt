use Rattle.std.proofs.Common.{subst}
use Rattle.pack_model.specs.Name.{IsName}
use Rattle.csv_table.proofs.Ranges.{anyway, below_32_bits}
use Rattle.input_text.proofs.SignalLaws.{signal_back}
use Rattle.input_text.proofs.signals.write_signal.Goals as goal

pub returns-clause-reads_back : goal.returns-clause-reads_back
returns-clause-reads_back c =
    let s = c.args.signal.now in
    anyway c.end.result (signal_back s (record {
      stands = c.requires.stands;
      name = subst IsName c.bytes.ensures.bytes c.bytes.ensures.name;
      sender = subst IsName c.bytes-2.ensures.bytes c.bytes-2.ensures.name;
    }) (below_32_bits s.pdu c.optional.ensures.fits))
