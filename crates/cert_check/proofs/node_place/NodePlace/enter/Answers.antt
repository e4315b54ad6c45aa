use Rattle.std.proofs.Common.{◌≡◌, ◌+◌, ◌∷◌, ap, arith, length, subst, sym, ◌∙◌}
use Rattle.grouping_tree.specs.Grouped.{labels_of, range_of}
use Rattle.grouping_tree.specs.Walk.{options_from, places_left}
use Rattle.grouping_tree.proofs.Puts.{some_option}
use Rattle.grouping_tree.proofs.Used.{small_range}
use Rattle.grouping_tree.proofs.Walks.{from-all, places_entered}
use Rattle.cert_check.specs.Places.{labels_at}
use Rattle.cert_check.proofs.PlaceSteps.{all_put}
use Rattle.cert_check.proofs.node_place.NodePlace.enter.Goals as goal

pub unreachable-requires : goal.unreachable-requires
unreachable-requires c =
    let p = c.args.self.now.partial in
    let problem = c.args.problem.now in
    let here : labels_at c.args.self.now ≡ labels_of p = all_put c.args.self.now c.requires.put in
    some_option (range_of problem p) (labels_of p) c.requires.place.belongs.legal
    (omega (arith, c.requires.some, ap length here)) (small_range problem p c.requires.place.belongs)
    (sym (from-all (range_of problem p) (labels_of p)) ∙ c.in_default.ensures.option)

pub returns-clause-places : goal.returns-clause-places
returns-clause-places c =
    let items = range_of c.args.problem.now c.args.self.now.partial in
    let old = labels_at c.args.self.now in
    let new = labels_at c.go_down.new.self in
    let x = c.in-Some.label in
    let here : labels_of c.args.self.now.partial ≡ old = sym (all_put c.args.self.now c.requires.put) in
    ap (λ xs. new ∷ places_left xs 0 new) c.go_down.ensures.over.range
    ∙ places_entered items old new x 0
    (subst (λ p. options_from items p 0 ≡ x ∷ options_from items p (x + 1)) here c.in-Some.ensures.option)
    c.go_down.ensures.labels (omega arith)
