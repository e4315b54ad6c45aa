use Rattle.std.proofs.Common.{◌≡◌, ℕ, ◌<◌, length}
use Rattle.bus_run.specs.Late.{IsLate}
use Rattle.bus_run.proofs.late.first_late.Given as goal

-- no release so far is late
abbrev pub invariant-loop-number : goal.invariant-loop-number
invariant-loop-number l = record {
  long : length l.from ≡ 128;
  none : (earlier : ℕ) → earlier < l.number → IsLate l.frames l.run earlier → ⊥;
}
