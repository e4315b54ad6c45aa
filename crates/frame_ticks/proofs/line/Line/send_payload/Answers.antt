use Rattle.std.proofs.Common.{arith}
use Rattle.frame_ticks.proofs.BitLaws.{payload_bits-more}
use Rattle.frame_ticks.proofs.Sending.{Sends-nil, Sends-append}
use Rattle.frame_ticks.proofs.line.Line.send_payload.Goals as goal

pub loop-byte-init : goal.loop-byte-init
loop-byte-init c = (Sends-nil c.args.self.now, omega arith)

pub loop-byte-preserved : goal.loop-byte-preserved
loop-byte-preserved c =
    let sends = rw c.from.ensures at c.send_number.ensures.sends in (
      rw (payload_bits-more c.args.payload.now c.loop-byte.byte-index c.loop-byte-test.true)
          (Sends-append _ _ _ _ _ c.loop-byte.invariant.0 sends),
      omega (arith, c.send_number.ensures.few, c.loop-byte.invariant.1),
    )
