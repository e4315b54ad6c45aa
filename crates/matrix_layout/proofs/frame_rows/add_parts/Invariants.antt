use Rattle.std.proofs.Common.{◌≡◌, ◌≤◌, ◌+◌, ◌++◌, drop}
use Rattle.std.specs.List.{flat_map}
use Rattle.matrix_layout.specs.ClassItems.{bytes_with, figures, items_at}
use Rattle.matrix_layout.specs.LaidOut.{parts_from, rows_of_part}
use Rattle.matrix_layout.proofs.frame_rows.add_parts.Given as goal

abbrev pub invariant-loop-number : goal.invariant-loop-number
invariant-loop-number l =
    (l.rows.items ++ flat_map (rows_of_part (figures l.frame) l.problem.signals)
    (parts_from l.frame.header l.next (items_at l.problem.items (drop l.number-index l.numbers)))
    ≡ l.initial.rows.items ++ flat_map (rows_of_part (figures l.frame) l.problem.signals)
    (parts_from l.frame.header 0 (items_at l.problem.items l.numbers)))
    × (l.next + bytes_with l.frame.header (items_at l.problem.items (drop l.number-index l.numbers)) ≤ 64)
