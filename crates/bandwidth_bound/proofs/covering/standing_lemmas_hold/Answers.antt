use Rattle.bandwidth_bound.proofs.PriceBound.{bound_is_below}
use Rattle.bandwidth_bound.proofs.StandingLemmas.{standing_lemmas_hold}
use Rattle.bandwidth_bound.proofs.covering.standing_lemmas_hold.Goals as goal

pub returns : goal.returns
returns c = standing_lemmas_hold bound_is_below
