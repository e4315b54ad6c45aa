use Rattle.std.proofs.Common.{◌≡◌, ◌++◌, ◌∷◌, take}
use Rattle.response_test.specs.Order.{others_of}
use Rattle.bandwidth_bound.proofs.failing.write_below.Given as goal

abbrev pub invariant-loop-number : goal.invariant-loop-number
invariant-loop-number l =
    l.order.items ≡ others_of l.own l.members ++ l.own ∷ take l.number-index l.remaining
