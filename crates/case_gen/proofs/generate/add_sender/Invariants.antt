use Rattle.std.proofs.Common.{◌≡◌, ◌+◌, ◌*◌, ◌++◌, map}
use Rattle.std.specs.List.{range_with_len}
use Rattle.case_gen.specs.Draws.{state_after}
use Rattle.case_gen.specs.Generated.{signal_of}
use Rattle.case_gen.proofs.generate.add_sender.Given as goal

-- the sender's signals so far, with two draws for each
abbrev pub invariant-loop-k : goal.invariant-loop-k
invariant-loop-k l = record {
  state : l.draws.state ≡ state_after l.initial.draws.state (2 * l.k);
  signals : l.signals.items
      ≡ l.initial.signals.items
      ++ map (λ j. signal_of l.sender (l.first + j) (state_after l.initial.draws.state (2 * j))) (range_with_len 0 l.k);
}
