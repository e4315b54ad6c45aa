use Rattle.std.proofs.Common.{◌≡◌, ◌+◌, ◌++◌, map, take}
use Rattle.plan_search.proofs.together.put_after.Given as goal

abbrev pub invariant-loop-label : goal.invariant-loop-label
invariant-loop-label l =
    l.labels.items ≡ l.initial.labels.items ++ map (λ label. l.classes + label) (take l.label-index l.own)
