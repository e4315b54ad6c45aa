use Rattle.std.proofs.Common.{◌≡◌, ℕ, ◌<◌, get_or, length}
use Rattle.placed_matrix.proofs.FirstRows.{HasFirst}
use Rattle.placed_matrix.proofs.checks.frames_agree.Given as goal

-- each identifier has its first row so far, with which the others agree
abbrev pub invariant-loop-number : goal.invariant-loop-number
invariant-loop-number l = record {
  long : length l.first_of ≡ 2048;
  first : (id : ℕ) → id < 2048 → HasFirst l.rows l.number id (get_or l.first_of id 0);
}
