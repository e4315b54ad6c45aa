use Rattle.std.proofs.Common.{◌≡◌, ◌+◌, ◌++◌, ◌∷◌, [], take, drop, get_or, sym, ap, ◌∙◌, subst}
use Rattle.std.proofs.lemmas.List.{take_more, take-append-drop}
use Rattle.grouping_tree.specs.Grouped.{range_of}
use Rattle.grouping_tree.specs.Partial.{IsPartial}
use Rattle.grouping_tree.proofs.Fronts.{partial-append}
use Rattle.cert_check.proofs.PlaceSteps.{over_on}
use Rattle.cert_check.proofs.walk.put_each.Goals as goal

pub put-requires-clause-legal : goal.put-requires-clause-legal
put-requires-clause-legal c =
    let labels = c.args.labels.now in
    let items = range_of c.args.problem.now c.args.place.now.partial in
    let index = c.loop-label.label-index in
    let inv = c.loop-label.invariant in
    let more : take (index + 1) labels ≡ take index labels ++ get_or labels index 0 ∷ [] =
    take_more labels index 0 c.loop-label-test.true in
    let front : IsPartial items (take (index + 1) labels) =
    partial-append items (take (index + 1) labels) (drop (index + 1) labels)
    (subst (IsPartial items) (sym (take-append-drop (index + 1) labels)) c.requires.legal) in
    rw (inv.over.range, inv.labels) (rw more at front)

pub loop-label-preserved : goal.loop-label-preserved
loop-label-preserved c =
    let labels = c.args.labels.now in
    let index = c.loop-label.label-index in
    let inv = c.loop-label.invariant in
    let told = c.put.ensures in
    record {
      place = told.place;
      labels = told.labels ∙ ap (λ ls. ls ++ get_or labels index 0 ∷ []) inv.labels
          ∙ sym (take_more labels index 0 c.loop-label-test.true);
      over = over_on c.args.problem.now c.args.place.now c.loop-label.place c.put.new.self inv.over told.over;
    }
