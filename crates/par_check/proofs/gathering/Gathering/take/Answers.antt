use Rattle.std.proofs.Common.{[], ◌∷◌, ◌∙◌, ap, subst, sym}
use Rattle.par_check.specs.Gathered.{Gathers}
use Rattle.par_check.proofs.Gatherings.{events_of_bound, events_of_fail, events_of_left}
use Rattle.par_check.proofs.gathering.Gathering.take.Goals as goal

pub returns-in-BoundLeaf : goal.returns-in-BoundLeaf
returns-in-BoundLeaf c =
    subst (Gathers c.args.self.nodes.items c.put.result)
    (events_of_bound ∙ ap (λ e. e ∷ []) (sym c.in-BoundLeaf.is)) c.put.ensures

pub returns-in-OpenLeaf : goal.returns-in-OpenLeaf
returns-in-OpenLeaf c =
    subst (Gathers c.args.self.nodes.items c.put-in-OpenLeaf.result)
    (events_of_left ∙ ap (λ e. e ∷ []) (sym c.in-OpenLeaf.is)) c.put-in-OpenLeaf.ensures

pub returns-in-FailLeaf : goal.returns-in-FailLeaf
returns-in-FailLeaf c =
    subst (Gathers c.args.self.nodes.items c.put-in-FailLeaf.result)
    (events_of_fail c.in-FailLeaf.refuted ∙ ap (λ e. e ∷ []) (sym c.in-FailLeaf.is)) c.put-in-FailLeaf.ensures
