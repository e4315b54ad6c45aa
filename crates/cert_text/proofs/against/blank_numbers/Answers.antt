use Rattle.cert_text.proofs.EvidenceTexts.{blank_more, blank_none}
use Rattle.cert_text.proofs.against.blank_numbers.Goals as goal

pub loop-number-init : goal.loop-number-init
loop-number-init c = rw c.in-Ok.ensures.items (blank_none c.args.bytes.now)

pub loop-number-preserved : goal.loop-number-preserved
loop-number-preserved c =
    rw c.in-Ok-push.ensures.items
    (blank_more c.args.bytes.now c.loop-number.numbers.items c.loop-number.left.now c.in-Some.after.now c.in-Some.number c.loop-number.invariant c.in-Some.ensures.text c.in-Some.ensures.small)
