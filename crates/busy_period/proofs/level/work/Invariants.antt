use Rattle.std.proofs.Common.{◌≡◌, ◌≤◌, ◌*◌, ◌^◌, take}
use Rattle.busy_period.specs.Demand.{work_of}
use Rattle.busy_period.proofs.level.work.Given as goal

abbrev pub invariant-loop-number : goal.invariant-loop-number
invariant-loop-number l = record {
  work : l.total ≡ work_of l.frames (take l.number-index l.numbers) l.time;
  bound : l.total ≤ l.number-index * (2 ^ 47 * 100000000);
}
