use Rattle.priority_assign.proofs.OneOrder.{one_order}
use Rattle.priority_assign.proofs.laws.one_order_is_lowest_first.Goals as goal

pub returns : goal.returns
returns c = λ frames bit order other some in_range first second.
    one_order frames bit (record { in_range = in_range; some_bit = some }) order other first.fills second.fills
