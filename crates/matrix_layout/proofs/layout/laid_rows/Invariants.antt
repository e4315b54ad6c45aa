use Rattle.std.proofs.Common.{◌≡◌, take}
use Rattle.std.specs.List.{flat_map, enumerate_from}
use Rattle.matrix_layout.specs.LaidOut.{rows_of_class}
use Rattle.matrix_layout.proofs.layout.laid_rows.Given as goal

abbrev pub invariant-loop-number : goal.invariant-loop-number
invariant-loop-number l =
    l.rows.items ≡ flat_map (rows_of_class l.problem l.labels) (take l.number (enumerate_from 0 l.order))
