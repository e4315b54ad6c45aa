use Rattle.response_test.proofs.Growth.{passes_before_growth}
use Rattle.response_test.proofs.laws.growth_keeps_failing.Goals as goal

pub returns : goal.returns
returns c = passes_before_growth
