use Rattle.cert_check.proofs.JoinedLaws as laws
use Rattle.cert_check.proofs.laws.found_in_full.Goals as goal

pub returns : goal.returns
returns c = laws.found_in_full
