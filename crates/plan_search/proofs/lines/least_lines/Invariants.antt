use Rattle.std.proofs.Common.{◌≡◌, ℕ, ◌<◌, length, get_or, All}
use Rattle.cert_text.specs.declared.parts.FrameLine.{FrameLine}
use Rattle.cert_text.specs.Written.{HasRoom}
use Rattle.plan_search.specs.Lines.{IsLeastLine}
use Rattle.plan_search.proofs.lines.least_lines.Given as goal

-- the least lines of the places so far
abbrev pub invariant-loop-place : goal.invariant-loop-place
invariant-loop-place l = record {
  count : length l.lines.items ≡ l.place;
  each : (k : ℕ) (d : FrameLine) → k < l.place → IsLeastLine l.frames l.order l.bit k
      (get_or l.lines.items k d);
  room : All HasRoom l.lines.items;
}
