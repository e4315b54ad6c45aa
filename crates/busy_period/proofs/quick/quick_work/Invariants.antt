use Rattle.std.proofs.Common.{◌*◌, ◌^◌, ◌≤◌, take}
use Rattle.busy_period.specs.Demand.{work_of}
use Rattle.busy_period.proofs.quick.quick_work.Given as goal

abbrev pub invariant-loop-index : goal.invariant-loop-index
invariant-loop-index l = record {
  less : l.total ≤ work_of l.frames (take l.index l.numbers) l.time;
  bound : l.total ≤ l.index * (2 ^ 47 * 100000000);
}
