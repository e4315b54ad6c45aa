use Rattle.std.proofs.Common.{◌+◌, ◌∙◌, ap}
use Rattle.case_gen.specs.Draws.{state_after}
use Rattle.case_gen.specs.Generated.{signal_of}
use Rattle.case_gen.proofs.Cases.{signals_more, state_after_more}
use Rattle.case_gen.proofs.generate.add_sender.Goals as goal

-- one signal more is two draws more
pub loop-k-preserved : goal.loop-k-preserved
loop-k-preserved c =
    record {
      state = c.in_ok-signal.ensures.state ∙ ap (λ s. state_after s 2) c.loop-k.invariant.state ∙ state_after_more _ c.loop-k.k;
      signals =
          signals_more _ _ _ _ _ c.loop-k.k c.loop-k.invariant.signals
          (c.in_ok-signal.ensures.signal ∙ ap (λ s. signal_of c.args.sender (c.len.result + 1 + c.loop-k.k) s) c.loop-k.invariant.state)
          c.in_ok-push.ensures.items;
    }
