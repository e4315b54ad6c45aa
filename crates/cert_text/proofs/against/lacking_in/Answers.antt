use Rattle.std.proofs.Common.{◌≡◌, ◌∷◌, arith}
use Rattle.cert_text.proofs.EvidenceTexts.{begins_lacking}
use Rattle.cert_text.proofs.against.lacking_in.Goals as goal

pub returns : goal.returns
returns c =
    let text : c.args.bytes.now ≡ 102 ∷ 32 ∷ c.in_ok-second.rest.now = cc (c.in_ok-first.ensures.cases.0, c.in_ok-second.ensures.cases.0, c.if-first-ne102.false, c.if-second-ne32.false) in
    begins_lacking c.args.bytes.now c.in_ok-second.rest.now c.in_ok-count.after.now c.in_ok-count.count text c.in_ok-count.ensures.text (omega arith) (omega arith)
