use Rattle.std.proofs.Common.{◌≡◌, ap, sym, subst, ◌∙◌}
use Rattle.pack_model.specs.declared.network.Network.{Network}
use Rattle.response_test.specs.Queueing.{IsBit}
use Rattle.response_test.specs.Refuted.{IsCommon}
use Rattle.cert_check.proofs.walk.Walk.refutes.Goals as goal

pub refutes-requires-clause-bit : goal.refutes-requires-clause-bit
refutes-requires-clause-bit c =
    let time : c.from-bit.result ≡ c.args.problem.now.network.nominal_ticks =
    c.from-bit.ensures ∙ ap (λ (n : Network). n.nominal_ticks) c.network.ensures.network in
    subst (IsBit c.frames.result.now) (sym time)
    (c.frames.ensures.bit c.args.problem.now c.requires.walks.ready.place.belongs)

pub refutes-requires-clause-hyper : goal.refutes-requires-clause-hyper
refutes-requires-clause-hyper c =
    subst (IsCommon c.frames.result.now) (sym c.hyper.ensures.hyper)
    (c.frames.ensures.common c.args.problem.now c.requires.walks.ready.place.belongs)
