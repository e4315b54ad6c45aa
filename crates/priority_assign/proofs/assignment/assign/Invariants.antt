use Rattle.std.proofs.Common.{◌≡◌, ◌-◌, ◌≤◌, length, take, drop}
use Rattle.busy_period.specs.Demand.{blocking_of}
use Rattle.priority_assign.specs.Lowest.{FillsLowestFirst}
use Rattle.priority_assign.specs.Once.{IsOnce}
use Rattle.priority_assign.proofs.assignment.assign.Given as goal

-- the lowest places are filled, `blocked` is the greatest ticks of their frames, and `once` of the
-- others
abbrev pub invariant-loop-placed : goal.invariant-loop-placed
invariant-loop-placed l = record {
  fills : FillsLowestFirst l.frames l.bit (length l.order - l.placed) l.order;
  blocked : l.blocked ≡ blocking_of l.frames (drop (length l.order - l.placed) l.order);
  bound : l.blocked ≤ 100000000;
  once : IsOnce l.frames (take (length l.order - l.placed) l.order) l.blocked l.once;
}
