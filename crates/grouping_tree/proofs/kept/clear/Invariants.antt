use Rattle.std.proofs.Common.{ℕ, ◌≡◌, ◌<◌, get_or, length}
use Rattle.busy_period.specs.declared.timed.Timed.{Timed}
use Rattle.grouping_tree.specs.declared.class.Class.{Class}
use Rattle.grouping_tree.proofs.kept.clear.Given as goal

-- the classes so far are those of no items
abbrev pub invariant-loop-label : goal.invariant-loop-label
invariant-loop-label l = record {
  held_room : length l.held.items ≡ length l.initial.held.items;
  frames_room : length l.frames.items ≡ length l.initial.held.items;
  held : (k : ℕ) (d : Class) → k < l.label → get_or l.held.items k d ≡ l.none;
  frames : (k : ℕ) (d : Timed) → k < l.label → get_or l.frames.items k d ≡ l.none.frame;
}
