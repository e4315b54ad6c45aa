use Rattle.std.proofs.Common.{refl, arith}
use Rattle.std.proofs.lemmas.Bool.{false≢true}
use Rattle.std.proofs.lemmas.Bool.Decides.{when_true, when_false}
use Rattle.ipdu_layout.proofs.MarkLaws.{MarksBelow-none, MarksBelow-more, not_apart_by_mark}
use Rattle.ipdu_layout.proofs.marks.stand_by_marks.Goals as goal

pub loop-place-init : goal.loop-place-init
loop-place-init c = MarksBelow-none 512 c.args.places.now

pub returns-then-not-mark : goal.returns-then-not-mark
returns-then-not-mark c = (
  λ t. absurd (false≢true t),
  λ apart. absurd (not_apart_by_mark 512 c.args.places.now c.loop-place.place-index c.loop-place.marks
      c.loop-place-test.true c.loop-place.invariant (when_false _ _ c.if-not-mark.true c.mark.ensures) apart),
)

pub loop-place-preserved : goal.loop-place-preserved
loop-place-preserved c =
    MarksBelow-more 512 c.args.places.now c.loop-place.place-index c.loop-place.marks _
    c.loop-place-test.true c.mark.auto.marks c.loop-place.invariant
    (when_true _ _ c.if-not-mark.false c.mark.ensures)

pub returns : goal.returns
returns c =
    (λ _ i j d before within. c.loop-place.invariant.apart i j d before (omega arith), λ _. refl)
