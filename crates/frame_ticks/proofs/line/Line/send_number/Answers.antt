use Rattle.std.proofs.Common.{◌≡◌, arith}
use Rattle.frame_ticks.proofs.BitLaws.{number_bits-zero, number_bits-down}
use Rattle.frame_ticks.proofs.Sending.{Sends-nil, Sends-append}
use Rattle.frame_ticks.proofs.line.Line.send_number.Goals as goal

pub loop-place-preserved : goal.loop-place-preserved
loop-place-preserved c =
    let sends = rw c.is_bit_set.ensures at c.send.ensures.sends in (
      λ new rest. c.loop-place.invariant.0 new
          (rw (number_bits-down c.loop-place.place c.args.number c.loop-place-test.true)
          (Sends-append _ _ _ _ _ sends rest)),
      omega (arith, c.send.ensures.few, c.loop-place.invariant.1),
    )

pub returns-clause-sends : goal.returns-clause-sends
returns-clause-sends c =
    let last : c.loop-place.place ≡ 0 = omega arith in
    c.loop-place.invariant.0 c.loop-place.self (rw (last, number_bits-zero) (Sends-nil c.loop-place.self))
