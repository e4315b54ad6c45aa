use Rattle.std.proofs.Common.{false, arith}
use Rattle.std.proofs.lemmas.List.{take_more}
use Rattle.frame_ticks.proofs.Sending.{Sends-nil, Sends-append}
use Rattle.frame_ticks.proofs.line.Line.send_all.Goals as goal

pub loop-bit-init : goal.loop-bit-init
loop-bit-init c = (Sends-nil c.args.self.now, omega arith)

pub loop-bit-preserved : goal.loop-bit-preserved
loop-bit-preserved c = (
  rw (take_more c.args.bits.now c.loop-bit.bit-index false c.loop-bit-test.true)
      (Sends-append _ _ _ _ _ c.loop-bit.invariant.0 c.send.ensures.sends),
  omega (arith, c.send.ensures.few, c.loop-bit.invariant.1),
)
