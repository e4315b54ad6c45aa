use Rattle.std.proofs.Common.{◌≤◌, length, arith}
use Rattle.cert_text.proofs.EvidenceTexts.{begins_late}
use Rattle.cert_text.proofs.against.late_in.Goals as goal

pub returns : goal.returns
returns c =
    let some : 1 ≤ length c.in_ok-busy.busy.items = omega arith in
    rw (c.of-busy.ensures, c.of-queue.ensures)
    (begins_late c.args.bytes.now c.in_ok-label.left.now c.in_ok-q.left.now c.in_ok-busy.left.now c.in_ok-left.left.now c.in_ok-busy.busy.items c.in_ok-queue.queue.items c.in_ok-queue.after.now c.in_ok-label.label c.in_ok-q.q
    c.in_ok-label.ensures.text (omega arith) c.in_ok-q.ensures.text c.in_ok-q.ensures.small c.in_ok-busy.ensures some c.in_ok-left.ensures c.in_ok-queue.ensures)
