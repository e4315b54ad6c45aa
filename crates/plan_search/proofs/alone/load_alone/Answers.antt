use Rattle.std.proofs.Common.{◌≡◌, List, length, ap, ◌∙◌, arith}
use Rattle.std.specs.List.{range_with_len}
use Rattle.pack_model.specs.declared.item.Item.{Item}
use Rattle.pack_model.proofs.Laws.{tests}
use Rattle.plan_search.specs.Alone.{labels_alone}
use Rattle.plan_search.proofs.Orders.{as_many, few_labels, is_front}
use Rattle.plan_search.proofs.alone.load_alone.Goals as goal

pub overflow_cast-items : goal.overflow_cast-items
overflow_cast-items c = omega (
  arith,
  ap length c.items.ensures.items,
  (tests c.args.problem.now c.items.ensures.problem).few_items,
)

pub overflow_cast-len : goal.overflow_cast-len
overflow_cast-len c =
    let same : c.deref.result.now ≡ labels_alone c.args.problem.now = c.deref.ensures.value
    ∙ c.in_ok-labels.ensures ∙ ap (λ (items : List Item). range_with_len 0
    (length items)) c.items.ensures.items in
    omega (
      arith,
      few_labels c.args.problem.now c.deref.result.now c.items.ensures.problem same,
      c.len.ensures,
    )

pub class_frames-requires-clause-labels : goal.class_frames-requires-clause-labels
class_frames-requires-clause-labels c =
    is_front c.args.problem.now c.deref.result.now c.items.ensures.problem
    (c.deref.ensures.value ∙ c.in_ok-labels.ensures ∙ ap
    (λ (items : List Item). range_with_len 0 (length items)) c.items.ensures.items)

pub class_frames-requires-clause-classes : goal.class_frames-requires-clause-classes
class_frames-requires-clause-classes c =
    let same : c.deref.result.now ≡ labels_alone c.args.problem.now = c.deref.ensures.value
    ∙ c.in_ok-labels.ensures ∙ ap (λ (items : List Item). range_with_len 0
    (length items)) c.items.ensures.items in
    omega (
      arith,
      as_many c.args.problem.now c.deref.result.now same,
      c.len.ensures,
      ap length c.deref.ensures.value,
    )
