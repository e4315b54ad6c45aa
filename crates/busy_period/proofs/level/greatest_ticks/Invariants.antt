use Rattle.std.proofs.Common.{◌≡◌, ◌≤◌, take}
use Rattle.busy_period.specs.Demand.{blocking_of}
use Rattle.busy_period.proofs.level.greatest_ticks.Given as goal

abbrev pub invariant-loop-number : goal.invariant-loop-number
invariant-loop-number l = record {
  value : l.greatest ≡ blocking_of l.frames (take l.number-index l.numbers);
  bound : l.greatest ≤ 100000000;
}
