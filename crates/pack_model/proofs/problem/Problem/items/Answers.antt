use Rattle.pack_model.proofs.problem.Problem.items.Goals as goal

pub returns-clause-sorted : goal.returns-clause-sorted
returns-clause-sorted c = rw (← c.self.view_is) c.self.invariant.1
