use Rattle.cert_check.proofs.HoleSteps as laws
use Rattle.cert_check.proofs.laws.stands_in_full.Goals as goal

pub returns : goal.returns
returns c = laws.stands_in_full
