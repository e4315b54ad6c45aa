use Rattle.cert_check.proofs.AcceptedLaws as laws
use Rattle.cert_check.proofs.laws.accepted_holds.Goals as goal

pub returns : goal.returns
returns c = laws.accepted_holds
