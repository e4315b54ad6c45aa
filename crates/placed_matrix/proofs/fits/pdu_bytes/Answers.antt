use Rattle.std.proofs.Common.{◌≡◌, Some, subst, sym, ◌∙◌, arith, rules}
use Rattle.pack_model.specs.Problem.{IsSorted}
use Rattle.placed_matrix.proofs.FramesFound.{small_at}
use Rattle.placed_matrix.proofs.PartsSoFar.{item_low}
use Rattle.placed_matrix.proofs.ItemRows.{bytes_of_one, bytes_of_none}
use Rattle.placed_matrix.proofs.fits.pdu_bytes.Goals as goal

pub returns-then-eq-clause-bytes : goal.returns-then-eq-clause-bytes
returns-then-eq-clause-bytes c =
    let is : c.item-item.result.pdu ≡ Some c.args.pdu = search rules in
    c.div_ceil.ensures
    ∙ bytes_of_one c.args.problem.now.signals c.items-items.result.now
    (subst (IsSorted c.args.problem.now.signals)
    (sym c.items-items.ensures.items) c.items-items.ensures.sorted) c.loop-item.item-index c.args.pdu
    c.item-item.result c.loop-item-test.true c.item-item.is is

pub returns-then-eq-clause-low : goal.returns-then-eq-clause-low
returns-then-eq-clause-low c =
    let small =
    small_at c.args.problem.now c.items-items.ensures.problem c.items-items.result.now
    c.items-items.ensures.items c.loop-item.item-index c.item-item.result c.loop-item-test.true
    c.item-item.is in
    omega (arith, c.div_ceil.ensures, item_low c.item-item.result small)

pub returns-clause-bytes : goal.returns-clause-bytes
returns-clause-bytes c =
    bytes_of_none c.args.problem.now.signals c.items-items.result.now
    (subst (IsSorted c.args.problem.now.signals)
    (sym c.items-items.ensures.items) c.items-items.ensures.sorted) c.args.pdu
    (λ k d lt. c.loop-item.invariant k d (omega (arith, lt, c.loop-item-test.false)))
