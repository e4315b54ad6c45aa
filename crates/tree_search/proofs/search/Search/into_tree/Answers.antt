use Rattle.std.proofs.Common.{map, sym, ap, ◌∙◌}
use Rattle.tree_search.specs.Open.{least_of}
use Rattle.tree_search.specs.Shown.{items_of}
use Rattle.tree_search.proofs.search.Search.into_tree.Goals as goal

pub returns-clause-tree : goal.returns-clause-tree
returns-clause-tree g c = λ x at.
    c.in_ok-tree.ensures x.tree (at.shows.flat_is ∙ sym c.in_ok-least.ensures.nodes)

pub returns-clause-least : goal.returns-clause-least
returns-clause-least g c = λ x at.
    let problem = c.args.problem.now in
    let bound_of = g.J.Judge.bound_of c.args.judge.now problem (items_of problem c.args.self) in
    c.in_ok-least.ensures.least ∙ ap (λ places. least_of (map bound_of places)) (sym at.shows.open_are)
