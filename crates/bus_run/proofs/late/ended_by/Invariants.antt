use Rattle.std.proofs.Common.{ℕ, ◌<◌, ◌≤◌}
use Rattle.bus_run.specs.Late.{EndsBy}
use Rattle.bus_run.proofs.late.ended_by.Given as goal

-- no send so far carries the release to its end by the time
abbrev pub invariant-loop-place : goal.invariant-loop-place
invariant-loop-place l = (send : ℕ) → l.from ≤ send → send < l.place → EndsBy l.run l.number l.time send → ⊥
