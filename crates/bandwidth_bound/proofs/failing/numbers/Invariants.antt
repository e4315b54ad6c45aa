use Rattle.std.proofs.Common.{◌≡◌, take}
use Rattle.bandwidth_bound.specs.Failing.{numbers_of}
use Rattle.bandwidth_bound.proofs.failing.numbers.Given as goal

abbrev pub invariant-loop-number : goal.invariant-loop-number
invariant-loop-number l = l.members.items ≡ numbers_of (take l.number-index l.named)
