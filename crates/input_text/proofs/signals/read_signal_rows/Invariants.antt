use Rattle.std.proofs.Common.{◌≡◌}
use Rattle.input_text.specs.SignalsText.{signals_from}
use Rattle.csv_table.proofs.Loop.{with_front}
use Rattle.input_text.proofs.signals.read_signal_rows.Given as goal

-- the signals so far and those of the rows that are left are those of all rows
abbrev pub invariant-loop-number : goal.invariant-loop-number
invariant-loop-number l =
    with_front l.signals.items (signals_from l.number l.rows) ≡ signals_from 2 l.initial.rows
