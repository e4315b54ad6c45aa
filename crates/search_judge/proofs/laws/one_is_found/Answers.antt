use Rattle.search_judge.proofs.Shows as shows
use Rattle.search_judge.proofs.laws.one_is_found.Goals as goal

pub returns : goal.returns
returns c = λ problem stands range values best p partial.
    shows.one_is_found problem stands range values best p partial
