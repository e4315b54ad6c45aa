use Rattle.busy_period.proofs.Stages.{demand-same_sets}
use Rattle.busy_period.proofs.laws.demand_depends_on_sets.Goals as goal

pub returns : goal.returns
returns c = demand-same_sets
