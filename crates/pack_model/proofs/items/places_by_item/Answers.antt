use Rattle.std.proofs.Common.{◌≡◌, ◌+◌, ℕ, [], true, false, ap, sym, subst, ◌∙◌, arith, Some, refl, inr, Vec, Global}
use Rattle.std.specs.Str.{bytes_eq}
use Rattle.std.proofs.lemmas.Bool.{not-false, not-true}
use Rattle.pack_model.specs.declared.problem.ProblemFault.TheVariants.{PduSenders}
use Rattle.pack_model.specs.declared.signal.Signal.{Signal}
use Rattle.pack_model.specs.Items.{IsClash}
use Rattle.pack_model.specs.Problem.{first_clash}
use Rattle.pack_model.proofs.PlaceSteps.{number_is, number_within, keys_more, lists_more, first_is, lists_all}
use Rattle.pack_model.proofs.Clashes.{first_inside, agrees, clashes, agree_more, clash_passed, clash_found, clash_none}
use Rattle.pack_model.proofs.items.places_by_item.Goals as goal

pub put_at-requires : goal.put_at-requires
put_at-requires c =
    let number =
    number_is c.args.signals.now c.loop-place.place c.index-signals-place.result c.key_at.result
    c.loop-place.keys.keys c.in_ok-number.number c.key_at.ensures c.loop-place.invariant.keys
    c.in_ok-number.ensures.index in
    let within =
    number_within (λ (v : Vec ℕ Global). v.items) c.loop-place.places.items c.args.signals.now
    c.loop-place.place c.in_ok-number.number
    c.index-signals-place.result c.loop-place.invariant.places number in
    omega arith

pub bounds-signals-first : goal.bounds-signals-first
bounds-signals-first c =
    let number =
    number_is c.args.signals.now c.loop-place.place c.index-signals-place.result c.key_at.result
    c.loop-place.keys.keys c.in_ok-number.number c.key_at.ensures c.loop-place.invariant.keys
    c.in_ok-number.ensures.index in
    first_inside c.args.signals.now c.loop-place.place c.index-signals-place.result c.in_ok-first.first
    c.loop-place-test.true
    (first_is c.args.signals.now c.loop-place.place c.index-signals-place.result c.in_ok-number.number
    c.in_ok-first.first _ c.loop-place-test.true number c.loop-place.invariant.places
    c.in_ok-first.ensures.first)

pub returns-then-ne-clause-fault : goal.returns-then-ne-clause-fault
returns-then-ne-clause-fault c =
    let number =
    number_is c.args.signals.now c.loop-place.place c.index-signals-place.result c.key_at.result
    c.loop-place.keys.keys c.in_ok-number.number c.key_at.ensures c.loop-place.invariant.keys
    c.in_ok-number.ensures.index in
    let first =
    first_is c.args.signals.now c.loop-place.place c.index-signals-place.result c.in_ok-number.number
    c.in_ok-first.first _ c.loop-place-test.true number c.loop-place.invariant.places
    c.in_ok-first.ensures.first in
    let differ : bytes_eq c.index-signals-first.result.sender c.index-signals-place.result.sender ≡ false =
    ap (λ (t : Signal). bytes_eq t.sender c.index-signals-place.result.sender) c.index-signals-first.is
    ∙ not-true _ (sym c.ne.ensures ∙ c.if-ne.true) in
    let found : first_clash [] c.args.signals.now ≡ Some c.loop-place.place =
    clash_found c.args.signals.now c.loop-place.place c.index-signals-place.result c.loop-place-test.true
    c.index-signals-place.is (clashes c.args.signals.now c.loop-place.place c.index-signals-place.result
    c.index-signals-first.result c.in_ok-first.first c.loop-place-test.true c.index-signals-place.is first
    c.index-signals-first.is differ) c.loop-place.invariant.rest in
    inr (subst (λ o. IsClash o (PduSenders (c.loop-place.place + 2))) (sym found) refl)

pub loop-place-preserved : goal.loop-place-preserved
loop-place-preserved c =
    let number =
    number_is c.args.signals.now c.loop-place.place c.index-signals-place.result c.key_at.result
    c.loop-place.keys.keys c.in_ok-number.number c.key_at.ensures c.loop-place.invariant.keys
    c.in_ok-number.ensures.index in
    let first =
    first_is c.args.signals.now c.loop-place.place c.index-signals-place.result c.in_ok-number.number
    c.in_ok-first.first _ c.loop-place-test.true number c.loop-place.invariant.places
    c.in_ok-first.ensures.first in
    let same : bytes_eq c.index-signals-first.result.sender c.index-signals-place.result.sender ≡ true =
    ap (λ (t : Signal). bytes_eq t.sender c.index-signals-place.result.sender) c.index-signals-first.is
    ∙ not-false _ (sym c.ne.ensures ∙ c.if-ne.false) in
    let none =
    agrees c.args.signals.now c.loop-place.place c.index-signals-place.result c.index-signals-first.result
    c.in_ok-first.first c.loop-place-test.true first c.index-signals-first.is same
    c.loop-place.invariant.agree in
    record {
      keys =
          keys_more c.args.signals.now c.loop-place.place c.index-signals-place.result c.key_at.result
          c.loop-place.keys.keys c.insert_full.new.self.keys c.loop-place-test.true
          c.index-signals-place.is c.key_at.ensures c.loop-place.invariant.keys
          c.in_ok-number.ensures.keys;
      places =
          lists_more c.args.signals.now c.loop-place.place c.index-signals-place.result c.in_ok-number.number
          _ _ c.loop-place-test.true c.index-signals-place.is number c.loop-place.invariant.places
          c.in_ok-first.ensures.lists;
      agree =
          agree_more c.args.signals.now c.loop-place.place c.index-signals-place.result c.loop-place-test.true
          c.index-signals-place.is c.loop-place.invariant.agree none;
      rest =
          clash_passed c.args.signals.now c.loop-place.place c.index-signals-place.result
          c.loop-place-test.true c.index-signals-place.is none c.loop-place.invariant.rest;
    }

pub returns-clause-places : goal.returns-clause-places
returns-clause-places c = (
  lists_all c.args.signals.now c.loop-place.place _ (omega arith) c.loop-place.invariant.places,
  clash_none c.args.signals.now c.loop-place.place (omega arith) c.loop-place.invariant.rest,
)
