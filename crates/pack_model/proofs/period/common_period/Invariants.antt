use Rattle.std.proofs.Common.{◌≡◌, ◌≤◌, fold, drop}
use Rattle.pack_model.specs.Problem.{lcm, periods_of, hyper_of}
use Rattle.pack_model.proofs.period.common_period.Given as goal

-- the periods that are left give the common period of all from that of those so far
abbrev pub invariant-loop-signal : goal.invariant-loop-signal
invariant-loop-signal l = record {
  some : 1 ≤ l.hyper;
  high : l.hyper ≤ 1000000000000000;
  rest : fold lcm l.hyper (drop l.signal-index (periods_of l.network l.signals))
      ≡ hyper_of l.network l.signals;
}
