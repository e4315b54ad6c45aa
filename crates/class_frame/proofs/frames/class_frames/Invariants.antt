use Rattle.std.proofs.Common.{◌≡◌, map, All}
use Rattle.std.specs.List.{range_with_len}
use Rattle.busy_period.specs.Timed.{IsInRange}
use Rattle.class_frame.specs.Grouping.{class_of}
use Rattle.class_frame.specs.Frame.{timed_of_items}
use Rattle.class_frame.proofs.frames.class_frames.Given as goal

-- the frames of the labels so far, each in range
abbrev pub invariant-loop-label : goal.invariant-loop-label
invariant-loop-label l = record {
  value : l.frames.items ≡ map (λ label. timed_of_items l.problem (class_of label l.labels l.problem.items))
      (range_with_len 0 l.label);
  in_range : All IsInRange l.frames.items;
}
