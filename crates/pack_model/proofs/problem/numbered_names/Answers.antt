use Rattle.std.proofs.Common.{◌≡◌, [], ◌+◌, Some, sym, subst, refl, inr}
use Rattle.pack_model.specs.declared.problem.ProblemFault.TheVariants.{TwiceNamed}
use Rattle.pack_model.specs.Problem.{names_of, first_repeat}
use Rattle.pack_model.specs.Items.{IsRepeat}
use Rattle.pack_model.proofs.Numbering.{names_found, names_step}
use Rattle.pack_model.proofs.problem.numbered_names.Goals as goal

-- the place of the repeat
pub returns-then-not-is_new-clause-fault : goal.returns-then-not-is_new-clause-fault
returns-then-not-is_new-clause-fault c =
    let found : first_repeat [] (names_of c.args.signals.now) ≡ Some c.loop-place.place =
    names_found
    (λ s. s.name) c.args.signals.now c.loop-place.place c.index-signals-place.result c.loop-place.names.keys
    c.in_ok-clone.field-0 c.in_ok-is_new.is_new c.loop-place-test.true c.index-signals-place.is
    c.in_ok-clone.ensures.cases c.in_ok-is_new.ensures.added c.if-not-is_new.true
    c.loop-place.invariant.names c.loop-place.invariant.rest in
    inr (subst (λ o. IsRepeat o (TwiceNamed (c.loop-place.place + 2))) (sym found) refl)

pub loop-place-preserved : goal.loop-place-preserved
loop-place-preserved c =
    let step =
    names_step
    (λ s. s.name) c.args.signals.now c.loop-place.place c.index-signals-place.result c.loop-place.names.keys
    c.insert_full.new.self.keys c.in_ok-clone.field-0 c.in_ok-is_new.is_new c.loop-place-test.true
    c.index-signals-place.is c.in_ok-clone.ensures.cases c.in_ok-is_new.ensures.added
    c.in_ok-is_new.ensures.keys c.if-not-is_new.false c.loop-place.invariant.names
    c.loop-place.invariant.rest in
    record { names = step.0; rest = step.1 }
