use Rattle.std.proofs.Common.{◌≡◌, ℕ, ◌<◌, ◌≤◌}
use Rattle.bus_run.specs.Run.{release_at}
use Rattle.bus_run.proofs.unsent.first_from.Given as goal

-- no release so far is of the frame
abbrev pub invariant-loop-number : goal.invariant-loop-number
invariant-loop-number l =
    (other : ℕ) → l.from ≤ other → other < l.number → (release_at l.run other).frame ≡ l.frame → ⊥
