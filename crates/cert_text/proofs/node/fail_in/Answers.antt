use Rattle.std.proofs.Common.{◌≡◌, ◌++◌, ◌∷◌, ℕ, ap, ◌∙◌, decimal, arith}
use Rattle.cert_text.proofs.NodeTexts.{begins_fail}
use Rattle.cert_text.proofs.node.fail_in.Goals as goal

pub returns : goal.returns
returns c =
    let none : c.in_ok-count.count ≡ 0 = omega arith in
    begins_fail c.args.bytes.now c.in_ok-count.after.now (c.in_ok-count.ensures.text ∙ ap (λ (n : ℕ). decimal n ++ 10 ∷ c.in_ok-count.after.now) none)
