use Rattle.response_test.proofs.Starts.{queueing-le}
use Rattle.response_test.proofs.laws.queueing_never_falls.Goals as goal

pub returns : goal.returns
returns c = queueing-le
