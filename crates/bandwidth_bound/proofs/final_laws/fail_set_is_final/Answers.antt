use Rattle.bandwidth_bound.proofs.Final as laws
use Rattle.bandwidth_bound.proofs.final_laws.fail_set_is_final.Goals as goal

pub returns : goal.returns
returns c = laws.fail_set_is_final
