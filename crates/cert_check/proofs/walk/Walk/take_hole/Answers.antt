use Rattle.std.proofs.Common.{refl, true}
use Rattle.cert_check.specs.Nodes.{hole}
use Rattle.cert_check.specs.Walk.{HasPlace}
use Rattle.cert_check.proofs.Nexts.{denied, node_fails, node_taken, said}
use Rattle.cert_check.proofs.walk.Walk.take_hole.Goals as goal

pub returns-then-not-has_place-clause-takes : goal.returns-then-not-has_place-clause-takes
returns-then-not-has_place-clause-takes c = λ tree.
    node_fails c.args.problem.now c.args.self.now (record c.args.self.now { failed = true }) (hole tree)
    (λ here. denied c.has_place.result (HasPlace c.args.self.now) c.if-not-has_place.true c.has_place.ensures here.0)
    refl

pub pass-requires-clause-place : goal.pass-requires-clause-place
pass-requires-clause-place c =
    said c.has_place.result (HasPlace c.args.self.now) c.if-not-has_place.false c.has_place.ensures

pub returns-clause-takes : goal.returns-clause-takes
returns-clause-takes c = λ tree.
    node_taken c.args.problem.now c.args.self.now c.pass.new.self (hole tree)
    (said c.has_place.result (HasPlace c.args.self.now) c.if-not-has_place.false c.has_place.ensures, tt)
    c.pass.ensures.passes.failed c.pass.ensures.passes.places c.pass.ensures.passes.least
