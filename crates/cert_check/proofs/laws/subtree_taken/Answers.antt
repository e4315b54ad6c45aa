use Rattle.cert_check.proofs.SubtreeLaws as laws
use Rattle.cert_check.proofs.laws.subtree_taken.Goals as goal

pub returns : goal.returns
returns c = laws.subtree_taken
