use Rattle.cert_check.proofs.AimLaws as laws
use Rattle.cert_check.proofs.laws.holes_aimed.Goals as goal

pub returns : goal.returns
returns c = laws.holes_aimed
