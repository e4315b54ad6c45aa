use Rattle.std.proofs.Common.{◌≡◌, ◌++◌, take}
use Rattle.matrix_layout.specs.ClassItems.{figures}
use Rattle.matrix_layout.specs.LaidOut.{rows_of_part}
use Rattle.matrix_layout.proofs.frame_rows.add_part.Given as goal

abbrev pub invariant-loop-number : goal.invariant-loop-number
invariant-loop-number l =
    l.rows.items ≡ l.initial.rows.items
    ++ take l.number (rows_of_part (figures l.frame) l.signals (record { at = l.at; places = l.places }))
