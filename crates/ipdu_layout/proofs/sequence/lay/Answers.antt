use Rattle.std.proofs.Common.{arith}
use Rattle.std.proofs.lemmas.List.{take_all}
use Rattle.std.proofs.lemmas.List.Sums.{sum_by_more_le}
use Rattle.ipdu_layout.proofs.StartLaws.{sum-widths, PlacesStand-sequence}
use Rattle.ipdu_layout.proofs.sequence.lay.Goals as goal

pub overflow_add-next : goal.overflow_add-next
overflow_add-next c =
    let most = sum-widths c.args.bits.now c.requires.few c.requires.in_range in
    let next = sum_by_more_le (λ x. x) c.args.bits.now c.loop-number.number 0 c.loop-number-test.true in
    omega (arith, c.loop-number.invariant.0)

pub returns-clause-stand : goal.returns-clause-stand
returns-clause-stand c =
    let whole = take_all c.loop-number.number c.args.bits.now c.loop-number-test.false in
    let bytes = c.div_ceil.ensures in
    let next = c.loop-number.invariant.0 in
    let stand =
    PlacesStand-sequence c.loop-number.starts c.args.bits.now (omega arith) c.requires.in_range
    (λ k h. c.loop-number.invariant.1 k (omega arith)) in
    rw (bytes, next, whole) stand
