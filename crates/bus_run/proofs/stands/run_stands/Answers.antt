use Rattle.bus_run.specs.Rules.{at_release}
use Rattle.bus_run.proofs.stands.run_stands.Goals as goal

pub returns-in-Err-clause-breaks : goal.returns-in-Err-clause-breaks
returns-in-Err-clause-breaks c = at_release c.in-Err.ensures.breaks
