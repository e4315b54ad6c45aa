use Rattle.grouping_tree.proofs.Puts.{options-legal}
use Rattle.grouping_tree.proofs.laws.options_are_legal.Goals as goal

pub returns : goal.returns
returns c = options-legal
