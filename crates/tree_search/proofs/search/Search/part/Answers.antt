use Rattle.std.proofs.Common.{◌++◌, refl, ap}
use Rattle.grouping_tree.specs.Grouped.{labels_of}
use Rattle.grouping_tree.specs.Walk.{places_left, with_each}
use Rattle.grouping_tree.proofs.Walks.{from-all}
use Rattle.tree_search.specs.Shown.{items_of}
use Rattle.tree_search.proofs.search.Search.part.Goals as goal

pub returns-clause-goes_on : goal.returns-clause-goes_on
returns-clause-goes_on c =
    let is = c.requires.search in
    record {
      is_of = record { belongs = is.belongs; below = is.below; done = is.done };
      items = refl;
      start = refl;
      base = refl;
      room = refl;
    }

pub returns-clause-rest : goal.returns-clause-rest
returns-clause-rest c =
    let self = c.args.self.now in
    let items = items_of c.args.problem.now self in
    let labels = labels_of self.partial in
    ap (λ options. with_each labels options ++ places_left items self.base labels) (from-all items labels)
