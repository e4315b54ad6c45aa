use Rattle.bandwidth_bound.proofs.FailLeaves.{fail_leaves_hold}
use Rattle.bandwidth_bound.proofs.PriceBound.{bound_is_below}
use Rattle.bandwidth_bound.proofs.covering.fail_leaves_hold.Goals as goal

pub returns : goal.returns
returns c = fail_leaves_hold bound_is_below
