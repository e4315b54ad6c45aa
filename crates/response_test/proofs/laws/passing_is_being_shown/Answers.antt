use Rattle.response_test.proofs.Verdicts.{passes_from_shown, shown_from_passes}
use Rattle.response_test.proofs.laws.passing_is_being_shown.Goals as goal

pub returns : goal.returns
returns c = λ own demand queueing. (shown_from_passes own demand queueing, passes_from_shown own demand queueing)
