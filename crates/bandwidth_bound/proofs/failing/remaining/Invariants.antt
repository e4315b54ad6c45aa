use Rattle.std.proofs.Common.{◌≡◌, filter, nat_eq}
use Rattle.std.specs.Prelude.{not}
use Rattle.std.specs.List.{list_any, range_with_len}
use Rattle.bandwidth_bound.proofs.failing.remaining.Given as goal

abbrev pub invariant-loop-number : goal.invariant-loop-number
invariant-loop-number l =
    l.remaining.items ≡ filter (λ number. not (list_any (nat_eq number) l.members)) (range_with_len 0 l.number)
