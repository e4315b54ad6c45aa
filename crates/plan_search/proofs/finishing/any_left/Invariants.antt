use Rattle.std.proofs.Common.{◌≡◌, false, take}
use Rattle.std.specs.List.{list_any}
use Rattle.plan_search.specs.Ending.{is_left}
use Rattle.plan_search.proofs.finishing.any_left.Given as goal

-- none so far is an open leaf
abbrev pub invariant-loop-node : goal.invariant-loop-node
invariant-loop-node l = list_any is_left (take l.node-index l.nodes) ≡ false
