use Rattle.std.proofs.Common.{ap, ◌∙◌, append-nil}
use Rattle.tree_search.specs.Shown.{items_of}
use Rattle.tree_search.specs.Trim.{reaches, trim}
use Rattle.tree_search.proofs.search.Search.into_trimmed.Goals as goal

pub trim-requires-clause-tree : goal.trim-requires-clause-tree
trim-requires-clause-tree g c =
    let x = c.requires.tree.0 in
    let shows = rw c.requires.done at c.requires.tree.1.shows in (
      x.tree,
      shows.flat_is ∙ append-nil c.args.self.nodes.items,
      rw (c.requires.search.done c.requires.done) shows.options,
    )

pub returns : goal.returns
returns g c = λ x at.
    let problem = c.args.problem.now in
    let items = items_of problem c.args.self in
    let cut = reaches (g.J.Judge.bound_of c.args.judge.now problem items) c.args.value in
    let shows = rw c.requires.done at at.shows in
    let start = c.requires.search.done c.requires.done in
    let flat_is = shows.flat_is ∙ append-nil c.args.self.nodes.items in
    c.in_ok-tree.ensures _ (c.in_ok-kept.ensures.trimmed x.tree flat_is (rw start shows.options))
    ∙ ap (λ p. trim items cut p x.tree) start
