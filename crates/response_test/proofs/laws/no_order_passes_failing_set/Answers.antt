use Rattle.response_test.proofs.Order.{no_order_passes}
use Rattle.response_test.proofs.laws.no_order_passes_failing_set.Goals as goal

pub returns : goal.returns
returns c = no_order_passes
