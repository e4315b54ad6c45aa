use Rattle.std.proofs.Common.{◌≡◌, ◌≤◌, ◌*◌, take}
use Rattle.priority_assign.specs.Once.{ticks_of, AskOnce}
use Rattle.priority_assign.proofs.in_time.once_of.Given as goal

-- what the frames so far ask for once, and a time within which none of them asks twice
abbrev pub invariant-loop-number : goal.invariant-loop-number
invariant-loop-number l = record {
  ticks : l.ticks ≡ ticks_of l.frames (take l.number-index l.numbers);
  window : AskOnce l.frames (take l.number-index l.numbers) l.window;
  bound : l.ticks ≤ l.number-index * 100000000;
}
