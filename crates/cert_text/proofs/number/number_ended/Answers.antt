use Rattle.std.proofs.Common.{refl, sym, arith}
use Rattle.std.proofs.lemmas.List.{take_rest}
use Rattle.cert_text.proofs.Numbers.{spelled_all, spelled_more}
use Rattle.cert_text.proofs.number.number_ended.Goals as goal

pub returns-then-not-is_ascii_digit-2-clause-text : goal.returns-then-not-is_ascii_digit-2-clause-text
returns-then-not-is_ascii_digit-2-clause-text c =
    rw take_rest
    (spelled_all c.args.bytes.now c.in_ok-first.first.now c.in_ok-first.rest.now c.loop-place.place c.loop-place.value _ c.in_ok-first.ensures.cases.0 c.loop-place.invariant c.loop-place-test.true refl
    (omega arith))

pub loop-place-preserved : goal.loop-place-preserved
loop-place-preserved c =
    rw c.from.ensures (spelled_more c.in_ok-first.first.now c.in_ok-first.rest.now c.loop-place.place c.loop-place.value _ c.loop-place.invariant c.loop-place-test.true refl (sym c.if-not-is_ascii_digit-2.ensures.value) c.if-first-eq48.false)
