use Rattle.cert_check.proofs.HoleSteps as laws
use Rattle.cert_check.proofs.laws.failed_stays.Goals as goal

pub returns : goal.returns
returns c = laws.failed_stays
