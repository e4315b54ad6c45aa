use Rattle.std.proofs.Common.{◌≡◌, ◌+◌, ◌++◌, ◌∷◌, [], take, drop, get_or, sym, ap, ◌∙◌, subst}
use Rattle.std.proofs.lemmas.List.{take_more, take-append-drop}
use Rattle.grouping_tree.specs.Partial.{IsPartial}
use Rattle.grouping_tree.proofs.Fronts.{partial-append}
use Rattle.search_task.proofs.placing.place.Goals as goal

pub put-requires-clause-legal : goal.put-requires-clause-legal
put-requires-clause-legal c =
    let path = c.args.path.now in
    let items = c.args.problem.now.items in
    let index = c.loop-label.label-index in
    let inv = c.loop-label.invariant in
    let more : take (index + 1) path ≡ take index path ++ get_or path index 0 ∷ [] =
    take_more path index 0 c.loop-label-test.true in
    let front : IsPartial items (take (index + 1) path) =
    partial-append items (take (index + 1) path) (drop (index + 1) path)
    (subst (IsPartial items) (sym (take-append-drop (index + 1) path)) c.requires) in
    rw (inv.range, inv.labels) (rw more at front)

pub loop-label-preserved : goal.loop-label-preserved
loop-label-preserved c =
    let path = c.args.path.now in
    let index = c.loop-label.label-index in
    let inv = c.loop-label.invariant in
    let told = c.put.ensures in
    record {
      belongs = told.belongs;
      labels = told.labels ∙ ap (λ ls. ls ++ get_or path index 0 ∷ []) inv.labels
          ∙ sym (take_more path index 0 c.loop-label-test.true);
      range = told.range ∙ inv.range;
    }
