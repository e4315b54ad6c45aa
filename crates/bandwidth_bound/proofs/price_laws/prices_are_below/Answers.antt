use Rattle.bandwidth_bound.proofs.PriceFrames as laws
use Rattle.bandwidth_bound.proofs.price_laws.prices_are_below.Goals as goal

pub returns : goal.returns
returns c = laws.prices_are_below
