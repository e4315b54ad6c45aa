use Rattle.par_check.proofs.Ones.{answer_is_one}
use Rattle.par_check.proofs.laws.answer_is_one.Goals as goal

pub returns : goal.returns
returns c = answer_is_one
