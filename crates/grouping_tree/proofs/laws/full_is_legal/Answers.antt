use Rattle.grouping_tree.proofs.Fronts.{full-legal}
use Rattle.grouping_tree.proofs.laws.full_is_legal.Goals as goal

pub returns : goal.returns
returns c = full-legal
