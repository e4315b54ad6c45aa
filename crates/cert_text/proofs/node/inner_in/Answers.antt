use Rattle.std.proofs.Common.{arith}
use Rattle.cert_text.proofs.NodeTexts.{begins_inner}
use Rattle.cert_text.proofs.node.inner_in.Goals as goal

pub returns : goal.returns
returns c = begins_inner c.args.bytes.now c.in_ok-count.after.now c.in_ok-count.count c.in_ok-count.ensures.text (omega arith) (omega arith)
