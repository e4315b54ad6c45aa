use Rattle.grouping_tree.proofs.Fronts.{legal-partial}
use Rattle.grouping_tree.proofs.laws.legal_is_partial.Goals as goal

pub returns : goal.returns
returns c = legal-partial
