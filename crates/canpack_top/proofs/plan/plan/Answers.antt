use Rattle.std.proofs.Common.{Err, ap, subst}
use Rattle.pack_model.specs.Problem.{Parts}
use Rattle.canpack_top.specs.Command.{names_of}
use Rattle.canpack_top.specs.Ending.{Gives}
use Rattle.canpack_top.specs.Files.{problem_at}
use Rattle.canpack_top.specs.Plan.{plan_meaning}
use Rattle.canpack_top.proofs.Runs.{planned, refusal, stopped}
use Rattle.canpack_top.proofs.plan.plan.Goals as goal

pub returns-in-Ok : goal.returns-in-Ok
returns-in-Ok g c = planned (names_of c.args.names) c.args.branches c.in-Ok.problem _ c.in-Ok.ensures.exact c.read_problem.ensures.only
    c.write_plan.ensures.written c.write_plan.ensures.accepted c.write_plan.ensures.part c.write_plan.ensures.write_fault
    c.write_plan.ensures.writes c.write_plan.ensures.same c.write_plan.ensures.later

pub write_plan-requires-clause-names : goal.write_plan-requires-clause-names
write_plan-requires-clause-names g c = c.requires.names

pub write_plan-requires-clause-some : goal.write_plan-requires-clause-some
write_plan-requires-clause-some g c = c.requires.some

pub write_plan-requires-clause-most : goal.write_plan-requires-clause-most
write_plan-requires-clause-most g c = c.requires.most

pub returns-in-Err : goal.returns-in-Err
returns-in-Err g c = stopped (plan_meaning c.args.branches (names_of c.args.names)) c.in-Err.stop _ c.answer_of.ensures
    (λ what is told. refusal (problem_at (names_of c.args.names) (g.F.Folder.files c.args.folder.now)) what
    (subst (λ s. Gives (λ (problem : Parts). problem) (Err s) (problem_at (names_of c.args.names) (g.F.Folder.files c.args.folder.now))) is (c.in-Err.ensures.exact told)))
    (λ is. c.in-Err.ensures.read_fault (ap Err is)) c.read_problem.ensures.only
