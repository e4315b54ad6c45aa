use Rattle.std.proofs.Common.{◌≡◌, take, slice_get}
use Rattle.std.specs.List.{filter_map}
use Rattle.class_frame.specs.Sums.{times_of}
use Rattle.class_frame.proofs.times.Times.of.Given as goal

-- the times of the signals at the places so far
abbrev pub invariant-loop-place : goal.invariant-loop-place
invariant-loop-place l = l.times ≡ times_of (filter_map (slice_get l.signals) (take l.place-index l.places))
