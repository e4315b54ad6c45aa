use Rattle.std.proofs.Common.{arith}
use Rattle.cert_text.proofs.EvidenceTexts.{begins_long}
use Rattle.cert_text.proofs.against.long_in.Goals as goal

pub returns : goal.returns
returns c =
    rw c.of.ensures
    (begins_long c.args.bytes.now c.in_ok-label.left.now c.in_ok-busy.busy.items c.in_ok-busy.after.now c.in_ok-label.label c.in_ok-label.ensures.text (omega arith) c.in_ok-busy.ensures)
