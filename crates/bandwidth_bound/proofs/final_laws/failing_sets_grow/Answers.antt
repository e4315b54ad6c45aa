use Rattle.bandwidth_bound.proofs.Final as laws
use Rattle.bandwidth_bound.proofs.final_laws.failing_sets_grow.Goals as goal

pub returns : goal.returns
returns c = laws.failing_sets_grow
