use Rattle.grouping_tree.proofs.Fronts.{front-legal}
use Rattle.grouping_tree.proofs.laws.fronts_are_legal.Goals as goal

pub returns : goal.returns
returns c = front-legal
