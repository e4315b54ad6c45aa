use Rattle.grouping_tree.proofs.Puts.{new-option}
use Rattle.grouping_tree.proofs.laws.new_is_option.Goals as goal

pub returns : goal.returns
returns c = new-option
