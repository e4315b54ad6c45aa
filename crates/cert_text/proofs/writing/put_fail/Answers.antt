use Rattle.cert_text.proofs.TreeLines.{adds-fail}
use Rattle.cert_text.proofs.writing.put_fail.Goals as goal

pub returns : goal.returns
returns c =
    adds-fail c.args.refuted.now c.as_slice-pieces.result.now c.loop-label.label-index c.args.out.now.items c.put_fail_line.new.out.items c.loop-label.out.items c.as_slice-pieces.ensures c.loop-label-test.false
    c.in_ok-put_fail_line.ensures c.loop-label.invariant
