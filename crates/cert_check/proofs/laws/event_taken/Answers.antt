use Rattle.cert_check.proofs.HoleSteps as laws
use Rattle.cert_check.proofs.laws.event_taken.Goals as goal

pub returns : goal.returns
returns c = laws.event_taken
