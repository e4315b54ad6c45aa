use Rattle.std.proofs.Common.{◌≡◌, ℕ, ◌*◌, ◌^◌, ◌<◌, length, get_or}
use Rattle.busy_period.specs.Timed.{frame_at}
use Rattle.busy_period.proofs.quick.inverses_of.Given as goal

-- the inverses so far
abbrev pub invariant-loop-index : goal.invariant-loop-index
invariant-loop-index l = record {
  many : length l.inverses ≡ 128;
  below : (k : ℕ) → k < l.index
      → get_or l.inverses k 0 * (frame_at l.frames (get_or l.numbers k 0)).period < 2 ^ 64;
}
