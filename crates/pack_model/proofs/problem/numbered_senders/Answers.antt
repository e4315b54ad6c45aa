use Rattle.std.proofs.Common.{List, ℕ, map, ap, ◌∙◌, arith}
use Rattle.std.proofs.lemmas.List.{take_all, length-map}
use Rattle.std.specs.Str.{bytes_eq}
use Rattle.pack_model.specs.Problem.{distinct}
use Rattle.pack_model.proofs.Numbering.{senders_step}
use Rattle.pack_model.proofs.problem.numbered_senders.Goals as goal

pub loop-signal-preserved : goal.loop-signal-preserved
loop-signal-preserved c =
    senders_step
    (λ s. s.sender) c.args.signals.now c.loop-signal.signal-index c.signal-item.result
    c.loop-signal.senders.keys
    c.insert_full.new.self.keys c.in_ok-clone.field-0 c.loop-signal-test.true c.signal-item.is
    c.in_ok-clone.ensures.cases c.in_ok-insert_full.ensures.keys c.loop-signal.invariant

-- the loop went over all signals
pub returns : goal.returns
returns c = c.loop-signal.invariant
    ∙ ap (distinct {X = List ℕ} bytes_eq)
    (take_all c.loop-signal.signal-index (map (λ s. s.sender) c.args.signals.now)
    (simp length-map (omega arith)))
