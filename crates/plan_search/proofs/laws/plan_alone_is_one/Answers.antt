use Rattle.plan_search.proofs.OnePlan.{one_plan}
use Rattle.plan_search.proofs.laws.plan_alone_is_one.Goals as goal

pub returns : goal.returns
returns c = one_plan
