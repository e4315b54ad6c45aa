use Rattle.std.proofs.Common.{sym, ◌∙◌, arith}
use Rattle.std.proofs.lemmas.Result.{err_from_is_err_and}
use Rattle.container_pdu.proofs.Loop.{goes_on, ends, are_zeros, is_done}
use Rattle.container_pdu.proofs.reading.read_parts.Goals as goal

pub returns-then-are_zeros : goal.returns-then-are_zeros
returns-then-are_zeros c =
    are_zeros c.args.header _ c.loop.counter c.loop.parts.items c.loop.rest.now _ c.loop-test.true
    (sym c.are_zeros.ensures ∙ c.if-are_zeros.true) c.loop.invariant.1

pub returns-in_err-part : goal.returns-in_err-part
returns-in_err-part c =
    let p = err_from_is_err_and c.from_residual.result c.from_residual.ensures.1 in
    rw (p.1, p.2) (ends c.in_err-part.field-0.0 c.args.header _ c.loop.counter c.loop.parts.items
    c.loop.rest.now _ c.loop-test.true (sym c.are_zeros.ensures ∙ c.if-are_zeros.false)
    (rw c.deref.ensures.value at c.in_err-part.ensures.exact) c.loop.invariant.1)

pub loop-preserved : goal.loop-preserved
loop-preserved c =
    let left = c.loop.invariant.0 in
    let shorter = c.in_ok-part.ensures.shorter in (
      omega (arith, left, shorter),
      rw c.in_ok-push.ensures.items
          (goes_on c.args.header _ c.loop.counter c.loop.parts.items c.loop.rest.now c.in_ok-part.part
          c.in_ok-part.after.now _ c.loop-test.true (sym c.are_zeros.ensures ∙ c.if-are_zeros.false)
          (rw c.deref.ensures.value at c.in_ok-part.ensures.exact) c.loop.invariant.1),
    )

pub returns : goal.returns
returns c =
    is_done c.args.header _ c.loop.counter c.loop.parts.items c.loop.rest.now _ c.loop-test.false
    c.loop.invariant.1
