use Rattle.std.proofs.Common.{◌≡◌, ◌≤◌, ◌*◌, take}
use Rattle.response_test.specs.Refuted.{sent_of}
use Rattle.response_test.proofs.refutation.sent.Given as goal

abbrev pub invariant-loop-number : goal.invariant-loop-number
invariant-loop-number l = record {
  value : l.total ≡ sent_of l.frames (take l.number-index l.numbers) l.hyper;
  bound : l.total ≤ l.number-index * (100000000 * 1000000000000000);
}
