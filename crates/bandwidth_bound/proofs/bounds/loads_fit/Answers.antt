use Rattle.bandwidth_bound.proofs.Loads.{loads_fit}
use Rattle.bandwidth_bound.proofs.bounds.loads_fit.Goals as goal

pub returns : goal.returns
returns c = loads_fit
