use Rattle.case_gen.proofs.Admitted.{answered, only_memory}
use Rattle.case_gen.proofs.problem.problem_of_case.Goals as goal

-- no case is refused
pub memory_of-requires : goal.memory_of-requires
memory_of-requires c =
    only_memory c.args.number c.in-Err.why c.in_ok-case.case _ c.in_ok-case.ensures.case c.into_vec.ensures
    (c.in-Err.ensures)

pub returns-in-Ok : goal.returns-in-Ok
returns-in-Ok c =
    answered c.args.number c.in-Ok.problem c.in_ok-case.case _ c.in_ok-case.ensures.case c.into_vec.ensures
    (c.in-Ok.ensures)
