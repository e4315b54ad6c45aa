use Rattle.bandwidth_bound.specs.Covering.{goal_by}
use Rattle.bandwidth_bound.specs.Goals.{main_goal}
use Rattle.bandwidth_bound.proofs.Covers.{covers}
use Rattle.bandwidth_bound.proofs.covering.leaves_cover.Goals as goal

pub returns-clause-any : goal.returns-clause-any
returns-clause-any c = λ items lower8 value may_leave are_failing p q tree legal h e.
    covers (goal_by items lower8 value may_leave are_failing) q legal p tree h e

pub returns-clause-main : goal.returns-clause-main
returns-clause-main c = λ problem values best may_leave p q tree legal h e.
    covers (main_goal problem values best may_leave) q legal p tree h e
