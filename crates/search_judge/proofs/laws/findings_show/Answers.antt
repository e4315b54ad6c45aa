use Rattle.search_judge.proofs.Shows.{shows}
use Rattle.search_judge.proofs.laws.findings_show.Goals as goal

pub returns : goal.returns
returns c = λ problem stands range values best p partial. shows problem stands range values best p partial
