use Rattle.std.proofs.Common.{take}
use Rattle.cert_check.specs.Said.{with_lines}
use Rattle.cert_check.specs.Taken.{StoresMore}
use Rattle.cert_check.proofs.check.take_lines.Given as goal

-- the lines so far were taken
abbrev pub invariant-loop-line : goal.invariant-loop-line
invariant-loop-line l =
    StoresMore l.problem l.fn.walk l.walk (with_lines (take l.line-index l.lines))
