use Rattle.std.proofs.Common.{List, All, sym, ◌∙◌, subst}
use Rattle.pack_model.specs.declared.signal.Signal.{Signal}
use Rattle.pack_model.specs.Signal.{SignalStands}
use Rattle.case_gen.proofs.Cases.{made_more, signals_stand}
use Rattle.case_gen.proofs.generate.make_case.Goals as goal

-- one sender more is one more step
pub loop-place-preserved : goal.loop-place-preserved
loop-place-preserved c =
    made_more c.args.number c.loop-place.place _ _ _ _ c.loop-place.invariant c.in_ok-add_sender.ensures.signals
    c.in_ok-add_sender.ensures.state

-- each signal of a case stands
pub returns-clause-signals : goal.returns-clause-signals
returns-clause-signals c =
    let Stand : List Signal → Type 0 = λ signals. All SignalStands signals in
    subst Stand (sym (c.of.ensures ∙ c.loop-place.invariant.signals)) (signals_stand c.args.number c.loop-place.place)
