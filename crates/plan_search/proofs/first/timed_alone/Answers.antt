use Rattle.std.proofs.Common.{List, length, sym, ap, subst, ◌∙◌, arith}
use Rattle.std.specs.List.{range_with_len}
use Rattle.pack_model.specs.declared.item.Item.{Item}
use Rattle.pack_model.proofs.Laws.{tests}
use Rattle.class_frame.specs.Legal.{IsLegal}
use Rattle.matrix_layout.proofs.OneEach.{one_each_legal}
use Rattle.plan_search.proofs.first.timed_alone.Goals as goal

pub overflow_cast-items : goal.overflow_cast-items
overflow_cast-items c = omega (
  arith,
  ap length c.items.ensures.items,
  (tests c.args.problem.now c.items.ensures.problem).few_items,
)

pub timed-requires : goal.timed-requires
timed-requires c =
    subst (IsLegal c.args.problem.now.items)
    (sym (c.in_ok-labels.ensures ∙ ap (λ (items : List Item). range_with_len 0 (length items))
    c.items.ensures.items)) (one_each_legal c.args.problem.now c.items.ensures.problem)
