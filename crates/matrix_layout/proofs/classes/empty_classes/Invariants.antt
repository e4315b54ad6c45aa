use Rattle.std.proofs.Common.{◌≡◌, [], map, replicate}
use Rattle.matrix_layout.proofs.classes.empty_classes.Given as goal

abbrev pub invariant-loop : goal.invariant-loop
invariant-loop l = map (λ class. class.items) l.numbers.items ≡ replicate l.counter []
