use Rattle.std.proofs.Common.{rules, arith}
use Rattle.response_test.proofs.Verdicts.{passes_from_numbers}
use Rattle.response_test.proofs.given.shown.Goals as goal

-- the answer is true at the last return alone, where the numbers are shown
pub returns-clause-passes : goal.returns-clause-passes
returns-clause-passes c =
    λ _. passes_from_numbers c.args.frames.now c.args.order.now c.args.place c.args.bit c.args.t c.args.w.now (record {
      holds = search rules;
      count = search rules;
      can_start = λ k below. c.loop-instance.invariant.can_start k (omega arith);
      in_time = λ k below. c.loop-instance.invariant.in_time k (omega arith);
    })
