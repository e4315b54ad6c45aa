use Rattle.bandwidth_bound.proofs.Final.{failing_is_final}
use Rattle.bandwidth_bound.proofs.PriceBound.{bound_is_below}
use Rattle.bandwidth_bound.proofs.Standing.{trees_hold}
use Rattle.bandwidth_bound.proofs.covering.standing_trees_hold.Goals as goal

pub returns : goal.returns
returns c = trees_hold bound_is_below failing_is_final
