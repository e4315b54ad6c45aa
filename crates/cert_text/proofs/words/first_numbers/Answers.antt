use Rattle.cert_text.proofs.Fronts.{begins_more, begins_none}
use Rattle.cert_text.proofs.words.first_numbers.Goals as goal

pub loop-number-init : goal.loop-number-init
loop-number-init c = rw c.in_ok-numbers.ensures.items (begins_none c.args.text.now)

pub loop-number-preserved : goal.loop-number-preserved
loop-number-preserved c =
    rw c.in_ok-push.ensures.items
    (begins_more c.args.text.now c.loop-number.numbers.items c.loop-number.left.now c.in-Some.after.now c.in-Some.number c.loop-number.invariant c.in-Some.ensures.text c.in-Some.ensures.small)
