use Rattle.std.proofs.Common.{ℕ, ◌+◌, ◌++◌, ◌∷◌, [], get_or, map, take, arith, sym, ap, ◌∙◌, append_assoc}
use Rattle.std.proofs.lemmas.List.{map-append, take_all, take_more}
use Rattle.class_frame.proofs.GroupingLaws.{label-lt-classes_of}
use Rattle.plan_search.proofs.together.put_after.Goals as goal

pub overflow_add-classes : goal.overflow_add-classes
overflow_add-classes c =
    omega (arith, label-lt-classes_of c.args.own.now c.loop-label.label-index c.loop-label-test.true)

pub loop-label-preserved : goal.loop-label-preserved
loop-label-preserved c =
    let i = c.loop-label.label-index in
    let own = c.args.own.now in
    let one = λ (label : ℕ). c.args.classes + label in
    c.in_ok-push.ensures.items
    ∙ ap (λ items. items ++ one (get_or own i 0) ∷ []) c.loop-label.invariant
    ∙ append_assoc c.args.labels.now.items (map one (take i own)) (one (get_or own i 0) ∷ [])
    ∙ ap (λ items. c.args.labels.now.items ++ items)
    (sym (map-append one (take i own) (get_or own i 0 ∷ []))
    ∙ ap (map one) (sym (take_more own i 0 c.loop-label-test.true)))

pub returns : goal.returns
returns c =
    c.loop-label.invariant
    ∙ ap (λ labels. c.args.labels.now.items ++ map (λ label. c.args.classes + label) labels)
    (take_all c.loop-label.label-index c.args.own.now c.loop-label-test.false)
