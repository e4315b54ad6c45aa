use Rattle.std.proofs.Common.{◌≡◌, ℕ, ◌-◌, ◌<◌, ◌≤◌, get_or, length}
use Rattle.response_test.specs.Order.{remaining_of}
use Rattle.response_test.specs.declared.evidence.Evidence.{Evidence}
use Rattle.bandwidth_bound.specs.Failing.{RefutedBelow, order_with}
use Rattle.bandwidth_bound.proofs.failing.are_refuted.Given as goal

-- the members from a number on are refuted, and the one before comes next
abbrev pub invariant-loop-k : goal.invariant-loop-k
invariant-loop-k l = record {
  order : 0 < l.k → l.order.items ≡ order_with (get_or l.members (l.k - 1) 0) l.members (remaining_of l.frames l.members);
  refuted : (j : ℕ) (d : ℕ × Evidence) → l.k ≤ j → j < length l.named
      → RefutedBelow l.frames l.bit l.hyper l.members (get_or l.named j d).0 (get_or l.named j d).1;
}
