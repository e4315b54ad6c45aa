use Rattle.priority_assign.proofs.OneOrder.{one_stuck}
use Rattle.priority_assign.proofs.laws.one_set_is_stuck.Goals as goal

pub returns : goal.returns
returns c = λ frames bit count other_count order other some in_range first second low low'.
    one_stuck frames bit (record { in_range = in_range; some_bit = some }) order other count other_count first second
    low low'
