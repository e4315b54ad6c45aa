use Rattle.std.proofs.Common.{◌≡◌, arith}
use Rattle.std.proofs.lemmas.Nat.Gcd.{IsGcd-from_zero, IsGcd-from_mod}
use Rattle.pack_model.proofs.period.common_divisor.Goals as goal

pub loop-divisor-preserved : goal.loop-divisor-preserved
loop-divisor-preserved c =
    λ g is. c.loop-divisor.invariant g (IsGcd-from_mod c.loop-divisor.dividend c.loop-divisor.divisor g is)

pub returns : goal.returns
returns c =
    let ends : c.loop-divisor.divisor ≡ 0 = omega arith in
    c.loop-divisor.invariant c.loop-divisor.dividend
    (IsGcd-from_zero c.loop-divisor.dividend c.loop-divisor.divisor ends)
