use Rattle.std.proofs.Common.{◌≡◌, take, All}
use Rattle.bandwidth_bound.specs.Failing.{numbers_of}
use Rattle.search_judge.specs.Stuck.{HasEvidence}
use Rattle.search_judge.proofs.stuck.refute_each.Given as goal

abbrev pub invariant-loop-own : goal.invariant-loop-own
invariant-loop-own l = record {
  members : numbers_of l.named.items ≡ take l.own-index l.members;
  evidence : All (HasEvidence l.frames l.bit l.hyper l.members) l.named.items;
}
