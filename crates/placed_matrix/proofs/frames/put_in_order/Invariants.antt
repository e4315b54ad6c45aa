use Rattle.std.proofs.Common.{◌≡◌, length, take}
use Rattle.placed_matrix.specs.Tables.{in_use}
use Rattle.placed_matrix.proofs.frames.put_in_order.Given as goal

-- the labels in use so far
abbrev pub invariant-loop-label : goal.invariant-loop-label
invariant-loop-label l = record {
  count : l.place ≡ length (in_use (take l.label-index l.label_of));
  order : take l.place l.order ≡ in_use (take l.label-index l.label_of);
}
