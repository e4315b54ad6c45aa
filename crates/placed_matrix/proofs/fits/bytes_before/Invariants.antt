use Rattle.std.proofs.Common.{◌≡◌, ◌≤◌, ◌*◌, take}
use Rattle.placed_matrix.specs.Tables.{bytes_under, parts_before}
use Rattle.placed_matrix.proofs.fits.bytes_before.Given as goal

-- the bytes of those of the items so far that begin before the row's part
abbrev pub invariant-loop-item : goal.invariant-loop-item
invariant-loop-item l = record {
  bytes : l.bytes ≡ bytes_under l.header
      (parts_before l.problem l.rows l.row.id l.row.at (take l.item-index l.items));
  low : l.bytes ≤ 72 * l.item-index;
}
