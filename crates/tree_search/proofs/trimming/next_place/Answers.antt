use Rattle.std.proofs.Common.{ap, ◌∙◌}
use Rattle.grouping_tree.specs.Grouped.{labels_of, range_of}
use Rattle.grouping_tree.proofs.Walks.{left-next}
use Rattle.tree_search.specs.Going.{places_on}
use Rattle.tree_search.proofs.trimming.next_place.Goals as goal

pub returns-in-Some-next_option-clause-places : goal.returns-in-Some-next_option-clause-places
returns-in-Some-next_option-clause-places c =
    let inv = c.loop-next.invariant in
    let items = range_of c.args.problem.now c.args.partial.now in
    let labels = labels_of c.loop-next.partial in
    inv.places ∙ ap (places_on items c.args.base labels) c.in-Some.is
    ∙ left-next items c.args.base labels c.in-Some-next_option.option c.in-Some.label inv.below
    (rw inv.range at c.in-Some-next_option.ensures.option)
