use Rattle.pack_model.proofs.Laws.{tests}
use Rattle.pack_model.proofs.Periods.{problem_period}
use Rattle.pack_model.proofs.problem.Problem.hyper.Goals as goal

pub returns-clause-common : goal.returns-clause-common
returns-clause-common c = rw (← c.self.view_is) (problem_period _ c.self.invariant.2)

pub returns-clause-high : goal.returns-clause-high
returns-clause-high c = (tests _ c.self.invariant.2).hyper_high
