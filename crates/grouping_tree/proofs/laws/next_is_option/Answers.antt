use Rattle.grouping_tree.proofs.Options.{next-once}
use Rattle.grouping_tree.proofs.laws.next_is_option.Goals as goal

pub returns : goal.returns
returns c = next-once
