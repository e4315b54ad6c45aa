use Rattle.std.proofs.Common.{arith}
use Rattle.busy_period.proofs.Stages.{fit-above, fit-after, made_up-by-fit}
use Rattle.busy_period.proofs.period.least_fit.Goals as goal

pub returns-then-asked-from-2-clause-none : goal.returns-then-asked-from-2-clause-none
returns-then-asked-from-2-clause-none c = λ time fit.
    omega (
      arith,
      fit-above _ _ _ c.args.ahead c.args.from c.loop-time.time time fit
          (c.loop-time.invariant.below time fit),
    )

pub returns-in_err-leap-clause-none : goal.returns-in_err-leap-clause-none
returns-in_err-leap-clause-none c =
    let ensured = c.in_err-leap.ensures {u = tt} in
    rw c.from_residual-in_err-leap.ensures (λ time fit. absurd (ensured.none _
    (made_up-by-fit c.args.frames.now c.args.numbers.now c.args.base c.args.ahead c.args.from
    c.loop-time.time _ time (omega arith) fit (c.loop-time.invariant.below time fit))))

pub returns-then-leap-from-clause-none : goal.returns-then-leap-from-clause-none
returns-then-leap-from-clause-none c = λ time fit.
    let ensured = c.in_ok-leap.ensures {u = tt} in
    omega (
      arith,
      fit-after c.args.frames.now c.args.numbers.now c.args.base c.args.ahead c.args.from c.loop-time.time _
          c.in_ok-leap.leap time (omega arith) ensured.some fit (c.loop-time.invariant.below time fit),
    )

pub loop-time-preserved : goal.loop-time-preserved
loop-time-preserved c =
    let ensured = c.in_ok-leap.ensures {u = tt} in
    record {
      begun = omega arith;
      below = λ time fit.
          fit-after c.args.frames.now c.args.numbers.now c.args.base c.args.ahead c.args.from c.loop-time.time _
          c.in_ok-leap.leap time (omega arith) ensured.some fit (c.loop-time.invariant.below time fit);
    }

pub loop-time-preserved-then-rounds-gt0 : goal.loop-time-preserved-then-rounds-gt0
loop-time-preserved-then-rounds-gt0 c =
    let ensured = c.in_ok-leap.ensures {u = tt} in
    record {
      begun = omega arith;
      below = λ time fit.
          c.quick_climb-time.ensures.below time
          (record {
            begun =
                fit-after c.args.frames.now c.args.numbers.now c.args.base c.args.ahead c.args.from
                c.loop-time.time _ c.in_ok-leap.leap time (omega arith) ensured.some fit
                (c.loop-time.invariant.below time fit);
            done = fit.done;
          });
    }
