use Rattle.std.proofs.Common.{refl, ap, length}
use Rattle.tree_search.proofs.Moves.{at-start, start-all}
use Rattle.tree_search.proofs.search.Search.begin.Goals as goal

pub returns-clause-start : goal.returns-clause-start
returns-clause-start c = rw c.labels-base.ensures (start-all _)

pub returns-clause-at : goal.returns-clause-at
returns-clause-at c =
    at-start c.args.problem.now _ c.args.best c.args.found
    (ap length c.labels-base.ensures) refl c.new.ensures.items refl refl
