use Rattle.grouping_tree.proofs.Fronts.{classes-grow}
use Rattle.grouping_tree.proofs.laws.classes_grow.Goals as goal

pub returns : goal.returns
returns c = classes-grow
