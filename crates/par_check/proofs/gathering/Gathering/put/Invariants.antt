use Rattle.std.proofs.Common.{◌≡◌, ◌++◌, length}
use Rattle.cert_text.specs.CertEvents.{tree_events}
use Rattle.par_check.specs.Gathered.{bare_of, open_events}
use Rattle.par_check.proofs.gathering.Gathering.put.Given as goal

-- the events of the nodes that are left, and then those of the tree
abbrev pub invariant-loop-node : goal.invariant-loop-node
invariant-loop-node l =
    open_events l.self.nodes.items ++ tree_events (bare_of l.tree)
    ≡ open_events l.initial.self.nodes.items ++ tree_events (bare_of l.initial.tree)

abbrev pub decreases-loop-node : goal.decreases-loop-node
decreases-loop-node l = length l.self.nodes.items
