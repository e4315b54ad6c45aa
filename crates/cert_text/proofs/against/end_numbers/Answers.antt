use Rattle.std.proofs.Common.{◌≡◌, ◌∷◌, ◌++◌, subst, decimal}
use Rattle.cert_text.proofs.EvidenceTexts.{blank_more, blank_none, end_more}
use Rattle.cert_text.proofs.against.end_numbers.Goals as goal

pub loop-number-init : goal.loop-number-init
loop-number-init c = rw c.in-Ok.ensures.items (blank_none c.args.bytes.now)

pub loop-number-preserved : goal.loop-number-preserved
loop-number-preserved c =
    let number = c.in-Some.number in
    let after = c.in-Some.after.now in
    rw c.in-Ok-push.ensures.items
    (blank_more c.args.bytes.now c.loop-number.numbers.items c.loop-number.left.now after number c.loop-number.invariant
    (subst (λ end. c.loop-number.left.now ≡ decimal number ++ end ∷ after) c.in-32.is c.in-Some.ensures.text)
    c.in-Some.ensures.small)

pub returns-in-10 : goal.returns-in-10
returns-in-10 c =
    let number = c.in-Some.number in
    let after = c.in-Some.after.now in
    rw c.in-Ok-push.ensures.items
    (end_more c.args.bytes.now c.loop-number.numbers.items c.loop-number.left.now after number c.loop-number.invariant
    (subst (λ end. c.loop-number.left.now ≡ decimal number ++ end ∷ after) c.in-10.is c.in-Some.ensures.text)
    c.in-Some.ensures.small)
