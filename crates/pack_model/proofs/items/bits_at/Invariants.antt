use Rattle.std.proofs.Common.{◌≡◌, ◌≤◌, ◌*◌, map, sum_by, slice_index, take}
use Rattle.pack_model.proofs.items.bits_at.Given as goal

-- the bits of the signals so far
abbrev pub invariant-loop-place : goal.invariant-loop-place
invariant-loop-place l = record {
  sum : l.bits ≡ sum_by (slice_index (map (λ s. s.bits) l.signals)) (take l.place-index l.places);
  low : l.bits ≤ 512 * l.place-index;
}
