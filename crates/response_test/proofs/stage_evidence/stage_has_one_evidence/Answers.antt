use Rattle.response_test.proofs.OneEvidence.{evidence_is_one}
use Rattle.response_test.proofs.stage_evidence.stage_has_one_evidence.Goals as goal

pub returns : goal.returns
returns c = evidence_is_one
