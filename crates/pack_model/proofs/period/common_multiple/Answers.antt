use Rattle.std.proofs.Common.{◌≡◌, ◌*◌, ◌/◌, ap, sym, ◌∙◌, arith}
use Rattle.std.proofs.Math.Nat.{pos_of_dvd_of_pos}
use Rattle.pack_model.specs.Problem.{lcm}
use Rattle.pack_model.proofs.Multiples.{lcm_by_gcd}
use Rattle.pack_model.proofs.period.common_multiple.Goals as goal

pub nonzero_div-b : goal.nonzero_div-b
nonzero_div-b c = pos_of_dvd_of_pos c.common_divisor.ensures.0 c.requires.a_low

pub returns-then-multiple-from : goal.returns-then-multiple-from
returns-then-multiple-from c =
    let same : lcm c.args.a c.args.b ≡ c.args.a * (c.args.b / c.common_divisor.result) =
    lcm_by_gcd c.args.a c.args.b c.common_divisor.result c.requires.a_low c.requires.b_low
    c.common_divisor.ensures in
    let product : c.from.result * c.from-2.result ≡ c.args.a * (c.args.b / c.common_divisor.result) =
    ap (λ n. n * c.from-2.result) c.from.ensures ∙ ap (λ n. c.args.a * n) c.from-2.ensures in
    omega arith

pub returns-else-multiple-from : goal.returns-else-multiple-from
returns-else-multiple-from c =
    let same : lcm c.args.a c.args.b ≡ c.args.a * (c.args.b / c.common_divisor.result) =
    lcm_by_gcd c.args.a c.args.b c.common_divisor.result c.requires.a_low c.requires.b_low
    c.common_divisor.ensures in
    let product : c.from.result * c.from-2.result ≡ c.args.a * (c.args.b / c.common_divisor.result) =
    ap (λ n. n * c.from-2.result) c.from.ensures ∙ ap (λ n. c.args.a * n) c.from-2.ensures in
    (product ∙ sym same, omega arith)
