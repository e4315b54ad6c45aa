use Rattle.std.proofs.Common.{arith}
use Rattle.cert_text.proofs.EvidenceTexts.{begins_over}
use Rattle.cert_text.proofs.against.over_in.Goals as goal

pub returns : goal.returns
returns c = begins_over c.args.bytes.now c.in_ok-label.after.now c.in_ok-label.label c.in_ok-label.ensures.text (omega arith)
