use Rattle.grouping_tree.proofs.Puts.{options-ascend}
use Rattle.grouping_tree.proofs.laws.options_ascend.Goals as goal

pub returns : goal.returns
returns c = options-ascend
