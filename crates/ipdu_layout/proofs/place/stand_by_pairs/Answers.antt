use Rattle.std.proofs.Common.{refl, sym, ◌∙◌, arith}
use Rattle.std.proofs.lemmas.Bool.{false≢true}
use Rattle.ipdu_layout.proofs.Places.{ApartBelow-more, not_apart, met_below, Any-met_below}
use Rattle.ipdu_layout.proofs.place.stand_by_pairs.Goals as goal

pub returns-then-meets_any : goal.returns-then-meets_any
returns-then-meets_any c =
    let places = c.args.places.now in
    let number = c.loop-number.number in
    let met = met_below places number _ (omega arith) (c.meets_any.ensures.0 c.if-meets_any.true) in (
      λ t. absurd (false≢true t),
      λ apart. absurd (not_apart places met.0 number met.2.0 met.1 c.loop-number-test.true met.2.2 met.2.1
          apart),
    )

pub loop-number-preserved : goal.loop-number-preserved
loop-number-preserved c =
    let places = c.args.places.now in
    let number = c.loop-number.number in
    ApartBelow-more places number c.loop-number-test.true c.loop-number.invariant
    (λ k before position first second.
    false≢true (sym c.if-meets_any.false
    ∙ c.meets_any.ensures.1 (Any-met_below places number _ k (omega arith) before
    (position, second, first))))

pub returns : goal.returns
returns c =
    (λ _ i j d before within. c.loop-number.invariant i j d before (omega arith), λ _. refl)
