use Rattle.std.proofs.Common.{ℕ, ◌≡◌, ◌<◌, get_or, length}
use Rattle.grouping_tree.specs.declared.frame_length.FrameLength.{FrameLength}
use Rattle.grouping_tree.specs.Grouped.{IsFrameLength}
use Rattle.grouping_tree.proofs.frame_length.write_lengths.Given as goal

-- the lengths so far are written
abbrev pub invariant-loop-bytes : goal.invariant-loop-bytes
invariant-loop-bytes l = record {
  room : length l.lengths.items ≡ 65;
  each : (k : ℕ) (d : FrameLength) → k < l.bytes → IsFrameLength l.network k (get_or l.lengths.items k d);
}
