use Rattle.std.proofs.Common.{false, refl}
use Rattle.bandwidth_bound.specs.Goals.{main_goal}
use Rattle.bandwidth_bound.proofs.Final.{failing_is_final}
use Rattle.bandwidth_bound.proofs.PriceBound.{bound_is_below}
use Rattle.bandwidth_bound.proofs.Standing.{trees_claim}
use Rattle.bandwidth_bound.proofs.TreeClaims.{none_open}
use Rattle.bandwidth_bound.proofs.covering.standing_trees_claim.Goals as goal

pub returns-clause-claim : goal.returns-clause-claim
returns-clause-claim c = trees_claim bound_is_below failing_is_final

pub returns-clause-closed : goal.returns-clause-closed
returns-clause-closed c = λ problem values best p tree h.
    none_open (main_goal problem values best false) refl p tree h
