use Rattle.cert_check.proofs.HoleSteps as laws
use Rattle.cert_check.proofs.laws.holes_stay.Goals as goal

pub returns : goal.returns
returns c = laws.holes_stay
