use Rattle.response_test.proofs.Denials.{evidence_denies}
use Rattle.response_test.proofs.refutation.evidence_denies_passing.Goals as goal

pub returns : goal.returns
returns c = evidence_denies
