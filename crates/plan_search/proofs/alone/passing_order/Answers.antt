use Rattle.std.proofs.Common.{◌≡◌}
use Rattle.priority_assign.specs.declared.assignment.Assigned.TheVariants as assigned
use Rattle.plan_search.proofs.alone.passing_order.Goals as goal

-- where frames are left, no order passes
pub returns-in-Stuck-clause-none : goal.returns-in-Stuck-clause-none
returns-in-Stuck-clause-none c = λ order passes.
    let all : assigned.Stuck c.in-Stuck.remaining ≡ assigned.All = c.in-Stuck.ensures.solvable.1
    (order, passes) in cc
