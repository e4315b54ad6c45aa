use Rattle.std.proofs.Common.{◌≡◌, ◌≤◌, ◌*◌, ◌/◌, take, sum_by}
use Rattle.class_frame.proofs.load.load_of_frames.Given as goal

-- the load of the frames so far, each at most 10^23 ticks
abbrev pub invariant-loop-frame : goal.invariant-loop-frame
invariant-loop-frame l = record {
  sum : l.load ≡ sum_by (λ frame. frame.ticks * (l.hyper / frame.period)) (take l.frame-index l.frames);
  low : l.load ≤ 100000000000000000000000 * l.frame-index;
}
