use Rattle.busy_period.proofs.Stages.{demand-le}
use Rattle.busy_period.proofs.laws.demand_never_falls.Goals as goal

pub returns : goal.returns
returns c = demand-le
