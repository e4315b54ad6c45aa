use Rattle.bandwidth_bound.proofs.PriceBound as laws
use Rattle.bandwidth_bound.proofs.price_laws.bound_is_exact.Goals as goal

pub returns : goal.returns
returns c = laws.bound_is_exact
