use Rattle.std.proofs.Common.{ℕ}
use Rattle.std.specs.Int.{IsGcd}
use Rattle.pack_model.proofs.period.common_divisor.Given as goal

-- what is the greatest common divisor now is that of the numbers given
abbrev pub invariant-loop-divisor : goal.invariant-loop-divisor
invariant-loop-divisor l = (g : ℕ) → IsGcd l.dividend l.divisor g → IsGcd l.fn.a l.fn.b g

abbrev pub decreases-loop-divisor : goal.decreases-loop-divisor
decreases-loop-divisor l = l.divisor
