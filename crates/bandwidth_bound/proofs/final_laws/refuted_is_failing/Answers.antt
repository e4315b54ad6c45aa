use Rattle.bandwidth_bound.proofs.Final as laws
use Rattle.bandwidth_bound.proofs.final_laws.refuted_is_failing.Goals as goal

pub returns : goal.returns
returns c = laws.refuted_is_failing
