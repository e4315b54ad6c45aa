use Rattle.search_judge.specs.Laws.{OneIsFound}
use Rattle.search_judge.proofs.Shows.{one_is_found}
use Rattle.plan_search.proofs.OnePlanOf.{plan_one}
use Rattle.plan_search.proofs.laws.plan_is_one.Goals as goal

-- one thing is found
the_one : OneIsFound
the_one problem stands range values best p partial = one_is_found problem stands range values best p partial

pub returns : goal.returns
returns c = λ problem branches plan other stands sorted it that.
    plan_one problem the_one branches plan other stands sorted it that
