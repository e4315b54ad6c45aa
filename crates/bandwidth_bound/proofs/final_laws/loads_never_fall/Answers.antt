use Rattle.bandwidth_bound.proofs.Extend as laws
use Rattle.bandwidth_bound.proofs.final_laws.loads_never_fall.Goals as goal

pub returns : goal.returns
returns c = laws.loads_never_fall
