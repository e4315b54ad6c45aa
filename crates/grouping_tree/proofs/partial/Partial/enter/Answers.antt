use Rattle.std.proofs.Common.{◌∷◌, sym, ap, ◌∙◌}
use Rattle.grouping_tree.specs.Grouped.{labels_of, range_of}
use Rattle.grouping_tree.specs.Walk.{places_left}
use Rattle.grouping_tree.proofs.Puts.{some_option}
use Rattle.grouping_tree.proofs.Used.{small_range}
use Rattle.grouping_tree.proofs.Walks.{from-all, places_entered}
use Rattle.grouping_tree.proofs.partial.Partial.enter.Goals as goal

pub unreachable-requires : goal.unreachable-requires
unreachable-requires c =
    let p = c.args.self.now in
    let problem = c.args.problem.now in
    some_option (range_of problem p) (labels_of p) c.requires.belongs.legal c.requires.some (small_range problem p c.requires.belongs)
    (sym (from-all (range_of problem p) (labels_of p)) ∙ c.in_default.ensures.option)

pub returns-clause-places : goal.returns-clause-places
returns-clause-places c = λ base le.
    let p = c.args.self.now in
    let new = c.put.new.self in
    ap (λ items. labels_of new ∷ places_left items base (labels_of new)) c.put.ensures.range
    ∙ places_entered (range_of c.args.problem.now p) (labels_of p) (labels_of new) c.in-Some.label base c.in-Some.ensures.option c.put.ensures.labels le
