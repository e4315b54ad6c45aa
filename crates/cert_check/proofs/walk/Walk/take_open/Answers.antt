use Rattle.std.proofs.Common.{ap, ◌∙◌, refl, Some, ◌∷◌, [], true}
use Rattle.cert_check.specs.Nodes.{lowered, open_leaf}
use Rattle.cert_check.specs.Walk.{StandsNext}
use Rattle.cert_check.proofs.Nexts.{denied, node_fails, node_taken, said}
use Rattle.cert_check.proofs.walk.Walk.take_open.Goals as goal

pub returns-then-not-open_stands-clause-takes : goal.returns-then-not-open_stands-clause-takes
returns-then-not-open_stands-clause-takes c =
    node_fails c.args.problem.now c.args.self.now
    (record c.args.self.now { failed = true }) open_leaf
    (denied c.open_stands.result
    (StandsNext c.args.problem.now c.args.self.now open_leaf) c.if-not-open_stands.true
    (c.open_stands.ensures c.args.problem.now)) refl

pub pass-requires-clause-place : goal.pass-requires-clause-place
pass-requires-clause-place c =
    (said c.open_stands.result (StandsNext c.args.problem.now c.args.self.now open_leaf)
    c.if-not-open_stands.false (c.open_stands.ensures c.args.problem.now)).0

pub returns-clause-takes : goal.returns-clause-takes
returns-clause-takes c =
    node_taken c.args.problem.now c.args.self.now
    (record c.pass.new.self { least = Some c.least_with.result }) open_leaf
    (said c.open_stands.result
    (StandsNext c.args.problem.now c.args.self.now open_leaf) c.if-not-open_stands.false
    (c.open_stands.ensures c.args.problem.now))
    c.pass.ensures.passes.failed c.pass.ensures.passes.places
    (c.least_with.ensures ∙ ap (λ least. lowered least (c.lower8-bound.result ∷ []))
    c.pass.ensures.passes.least
    ∙ ap (λ bound. lowered c.args.self.now.least (bound ∷ [])) (c.lower8-bound.ensures c.args.problem.now c.requires))
