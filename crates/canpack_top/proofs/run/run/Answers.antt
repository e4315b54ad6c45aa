use Rattle.canpack_top.specs.Check.{check_meaning}
use Rattle.canpack_top.specs.Make.{make_meaning}
use Rattle.canpack_top.specs.Plan.{plan_meaning}
use Rattle.canpack_top.proofs.Runs.{ran, renamed}
use Rattle.canpack_top.proofs.run.run.Goals as goal

pub returns-in-CheckFiles : goal.returns-in-CheckFiles
returns-in-CheckFiles g c = ran c.args.words.now _ _ _ c.in-CheckFiles.is (renamed check_meaning _ _ _ c.names_in.ensures c.check.ensures)

pub returns-in-PlanFiles : goal.returns-in-PlanFiles
returns-in-PlanFiles g c = ran c.args.words.now _ _ _ c.in-PlanFiles.is (renamed (plan_meaning c.in-PlanFiles.branches) _ _ _ c.names_in-in-PlanFiles.ensures c.plan.ensures)

pub returns-in-MakeFiles : goal.returns-in-MakeFiles
returns-in-MakeFiles g c =
    ran c.args.words.now _ _ _ c.in-MakeFiles.is (renamed (make_meaning c.in-MakeFiles.number) _ _ _ c.case_names_in.ensures c.make.ensures)

pub returns-in-PlanCase : goal.returns-in-PlanCase
returns-in-PlanCase g c = ran c.args.words.now _ _ _ c.in-PlanCase.is c.plan_case.ensures
