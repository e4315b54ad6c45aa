use Rattle.std.proofs.Common.{ℕ, ◌≡◌, ◌<◌, take, get_or, length}
use Rattle.class_frame.specs.declared.sums.Sums.{Sums}
use Rattle.class_frame.specs.Grouping.{class_of}
use Rattle.class_frame.specs.Sums.{AreSums}
use Rattle.class_frame.proofs.classes.class_sums.Given as goal

-- the sums of each class of the items so far
abbrev pub invariant-loop-number : goal.invariant-loop-number
invariant-loop-number l = record {
  sized : length l.sums ≡ 128;
  each : (k : ℕ) (d : Sums) → k < 128 → AreSums l.problem (class_of k (take l.number l.labels) (take l.number l.items)) (get_or l.sums k d);
}
