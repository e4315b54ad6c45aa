use Rattle.grouping_tree.proofs.Fronts.{classes-extend}
use Rattle.grouping_tree.proofs.laws.classes_extend.Goals as goal

pub returns : goal.returns
returns c = classes-extend
