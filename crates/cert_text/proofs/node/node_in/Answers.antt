use Rattle.std.proofs.Common.{◌≡◌, ◌∷◌}
use Rattle.cert_text.proofs.NodeTexts.{begins_bound, begins_open}
use Rattle.cert_text.proofs.node.node_in.Goals as goal

pub returns-in-98-eq10 : goal.returns-in-98-eq10
returns-in-98-eq10 c =
    let text : c.args.bytes.now ≡ 98 ∷ 10 ∷ c.in_ok-second.after.now = cc (c.in_ok-first.ensures.cases.0, c.in_ok-second.ensures.cases.0, c.in-98-eq10.is-0, c.in-98-eq10.is-1) in
    begins_bound c.args.bytes.now c.in_ok-second.after.now text

pub returns-in-111-eq10 : goal.returns-in-111-eq10
returns-in-111-eq10 c =
    let text : c.args.bytes.now ≡ 111 ∷ 10 ∷ c.in_ok-second.after.now = cc (c.in_ok-first.ensures.cases.0, c.in_ok-second.ensures.cases.0, c.in-111-eq10.is-0, c.in-111-eq10.is-1) in
    begins_open c.args.bytes.now c.in_ok-second.after.now text
