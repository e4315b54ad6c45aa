use Rattle.std.proofs.Common.{refl}
use Rattle.canpack_top.proofs.Runs.{case_planned}
use Rattle.canpack_top.proofs.case_plan.plan_case.Goals as goal

pub returns-in-Ok : goal.returns-in-Ok
returns-in-Ok g c = case_planned c.args.number _ c.in-Ok.ensures tt refl

pub returns-in-Err : goal.returns-in-Err
returns-in-Err g c = case_planned c.args.number _ tt refl refl

pub case_answer-requires : goal.case_answer-requires
case_answer-requires g c = c.requires
