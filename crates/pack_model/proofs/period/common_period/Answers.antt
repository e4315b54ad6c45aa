use Rattle.std.proofs.Common.{◌≡◌, ◌≤◌, ◌<◌, ◌*◌, ap, ◌∙◌, arith}
use Rattle.pack_model.specs.Problem.{lcm, hyper_of}
use Rattle.pack_model.proofs.Multiples.{lcm_some}
use Rattle.pack_model.proofs.Periods.{period_more, period_least, period_some}
use Rattle.pack_model.proofs.period.common_period.Goals as goal

pub returns-in_default : goal.returns-in_default
returns-in_default c =
    let period : c.from.result * c.from-in-loop-signal.result
    ≡ c.args.network.now.ticks_per_us * c.signal-item.result.period_us =
    ap (λ n. n * c.from-in-loop-signal.result) c.from.ensures
    ∙ ap (λ n. c.args.network.now.ticks_per_us * n) c.from-in-loop-signal.ensures in
    let long : 1000000000000000 < lcm c.loop-signal.hyper (c.from.result * c.from-in-loop-signal.result) =
    c.in_default.ensures in
    let least : lcm c.loop-signal.hyper (c.from.result * c.from-in-loop-signal.result)
    ≤ hyper_of c.args.network.now c.args.signals.now =
    period_least c.args.network.now c.args.signals.now c.loop-signal.signal-index c.signal-item.result
    c.loop-signal.hyper (c.from.result * c.from-in-loop-signal.result) c.requires.network
    c.requires.signals c.loop-signal-test.true c.signal-item.is period c.loop-signal.invariant.some
    (period_some c.args.network.now c.args.signals.now c.loop-signal.signal-index c.signal-item.result _
    c.requires.network c.requires.signals c.loop-signal-test.true c.signal-item.is period)
    c.loop-signal.invariant.rest in
    omega arith

pub loop-signal-preserved : goal.loop-signal-preserved
loop-signal-preserved c =
    let period : c.from.result * c.from-in-loop-signal.result
    ≡ c.args.network.now.ticks_per_us * c.signal-item.result.period_us =
    ap (λ n. n * c.from-in-loop-signal.result) c.from.ensures
    ∙ ap (λ n. c.args.network.now.ticks_per_us * n) c.from-in-loop-signal.ensures in
    let is : c.in-Some.multiple ≡ lcm c.loop-signal.hyper (c.from.result * c.from-in-loop-signal.result) =
    c.in-Some.ensures.0 in
    let some : 1 ≤ lcm c.loop-signal.hyper (c.from.result * c.from-in-loop-signal.result) =
    lcm_some _ _ c.loop-signal.invariant.some
    (period_some c.args.network.now c.args.signals.now c.loop-signal.signal-index c.signal-item.result _
    c.requires.network c.requires.signals c.loop-signal-test.true c.signal-item.is period) in
    record {
      some = omega arith;
      high = c.in-Some.ensures.1;
      rest =
          period_more c.args.network.now c.args.signals.now c.loop-signal.signal-index c.signal-item.result
          c.loop-signal.hyper _ c.in-Some.multiple c.loop-signal-test.true c.signal-item.is period is
          c.loop-signal.invariant.rest;
    }
