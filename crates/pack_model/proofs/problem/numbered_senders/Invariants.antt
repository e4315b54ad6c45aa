use Rattle.std.proofs.Common.{◌≡◌, take, map}
use Rattle.std.specs.Str.{bytes_eq}
use Rattle.pack_model.specs.Problem.{distinct}
use Rattle.pack_model.proofs.problem.numbered_senders.Given as goal

-- the senders of the signals so far
abbrev pub invariant-loop-signal : goal.invariant-loop-signal
invariant-loop-signal l =
    l.senders.keys ≡ distinct bytes_eq (take l.signal-index (map (λ s. s.sender) l.signals))
