use Rattle.std.proofs.Common.{◌≡◌, length, map, take}
use Rattle.std.specs.List.{range_with_len}
use Rattle.class_frame.specs.Grouping.{class_of}
use Rattle.matrix_layout.proofs.classes.items_by_class.Given as goal

abbrev pub invariant-loop-number : goal.invariant-loop-number
invariant-loop-number l =
    map (λ class. class.items) l.numbers.items
    ≡ map (λ label. class_of label (take l.number l.labels)
    (take l.number (range_with_len 0 (length l.labels)))) (range_with_len 0 l.classes)
