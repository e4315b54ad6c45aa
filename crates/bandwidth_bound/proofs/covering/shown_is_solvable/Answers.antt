use Rattle.bandwidth_bound.proofs.Shown.{shown_is_solvable}
use Rattle.bandwidth_bound.proofs.covering.shown_is_solvable.Goals as goal

pub returns : goal.returns
returns c = shown_is_solvable
