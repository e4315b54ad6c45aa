use Rattle.response_test.proofs.Verdicts.{passes_from_numbers}
use Rattle.response_test.proofs.laws.shown_numbers_pass.Goals as goal

pub returns : goal.returns
returns c = passes_from_numbers
