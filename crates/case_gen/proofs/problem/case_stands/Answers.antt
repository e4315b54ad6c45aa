use Rattle.case_gen.proofs.Admitted.{case_stands}
use Rattle.case_gen.proofs.problem.case_stands.Goals as goal

pub returns : goal.returns
returns c = case_stands c.args.number
