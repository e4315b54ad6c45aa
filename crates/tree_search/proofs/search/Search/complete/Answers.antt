use Rattle.tree_search.proofs.search.Search.complete.Goals as goal

pub close-requires-clause-search : goal.close-requires-clause-search
close-requires-clause-search c =
    let is = c.requires.search in
    record { belongs = is.belongs; below = is.below; done = is.done }

pub returns-clause-goes_on : goal.returns-clause-goes_on
returns-clause-goes_on c =
    let on = c.in_ok-from.ensures.goes_on in
    record { is_of = on.is_of; items = on.items; start = on.start; base = on.base; room = on.room }
