use Rattle.std.proofs.Common.{◌≡◌, ℕ, ◌<◌, length, slice_index}
use Rattle.bus_run.specs.Tables.{IsFirstFrom}
use Rattle.bus_run.proofs.unsent.first_of_each.Given as goal

-- the table has the first release of each frame so far
abbrev pub invariant-loop-frame : goal.invariant-loop-frame
invariant-loop-frame l = record {
  long : length l.next ≡ 128;
  first : (other : ℕ) → other < l.frame → IsFirstFrom l.run other 0 (slice_index l.next other);
}
