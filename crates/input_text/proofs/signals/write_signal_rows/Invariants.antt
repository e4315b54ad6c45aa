use Rattle.std.proofs.Common.{◌≡◌, ◌++◌, [], drop, map, take}
use Rattle.std.specs.Prelude.{All}
use Rattle.csv_table.specs.Writing.{rows_text}
use Rattle.input_text.specs.SignalsText.{ReadsBack, signal_fields}
use Rattle.input_text.proofs.signals.write_signal_rows.Given as goal

-- the text so far and that of the signals that are left are the whole; those so far are read back
abbrev pub invariant-loop-signal : goal.invariant-loop-signal
invariant-loop-signal l =
    (l.out.row ≡ [])
    × (l.out.text ++ rows_text (map signal_fields (drop l.signal-index l.signals)) ≡ l.initial.out.text
    ++ rows_text (map signal_fields l.signals))
    × All ReadsBack (take l.signal-index l.signals)
