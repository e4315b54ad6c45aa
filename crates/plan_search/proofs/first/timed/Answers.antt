use Rattle.std.proofs.Common.{◌≡◌, ◌*◌, ◌/◌, Some, IfSome, sum_by, ap, subst, sym, ◌∙◌, arith}
use Rattle.std.specs.List.{range_with_len}
use Rattle.busy_period.specs.declared.timed.Timed.{Timed}
use Rattle.response_test.specs.Order.{OrderPasses}
use Rattle.priority_assign.specs.Lowest.{IsLowestFirst}
use Rattle.class_frame.specs.Classes.{frames_of_classes, load_of}
use Rattle.pack_model.specs.declared.network.Network.{Network}
use Rattle.pack_model.proofs.Laws.{tests}
use Rattle.class_frame.specs.Grouping.{classes_of}
use Rattle.class_frame.proofs.GroupingLaws.{classes_of-le-length}
use Rattle.plan_search.specs.Begin.{IsTimed}
use Rattle.plan_search.proofs.Firsts.{found-timed, loads-sum}
use Rattle.plan_search.proofs.first.timed.Goals as goal

pub count_classes-requires : goal.count_classes-requires
count_classes-requires c =
    omega (
      arith,
      ap classes_of c.deref-2.ensures.value,
      classes_of-le-length c.args.problem.now.items c.args.labels.items c.requires.grouping,
      (tests c.args.problem.now c.network.ensures.problem).few_items,
    )

pub returns-in-Some : goal.returns-in-Some
returns-in-Some c =
    let problem = c.args.problem.now in
    let labels = c.args.labels.items in
    let order = c.in-Some.order.items in
    let load = c.load_of_frames.result in
    let frames = c.in_ok-frames.frames.items in
    let are : frames ≡ frames_of_classes problem problem.items labels =
    c.in_ok-frames.ensures.value ∙ ap (frames_of_classes problem problem.items) c.deref.ensures.value in
    let time : c.from-bit.result ≡ problem.network.nominal_ticks =
    c.from-bit.ensures ∙ ap (λ (n : Network). n.nominal_ticks) c.network.ensures.network in
    let lowest : IsLowestFirst c.deref-3.result.now c.from-bit.result 0 order =
    subst (λ found. IfSome found (λ o. IsLowestFirst c.deref-3.result.now c.from-bit.result 0 o.items))
    c.in-Some.is
    c.in_ok-order.ensures.lowest_first in
    let passes : OrderPasses c.deref-3.result.now c.from-bit.result order =
    subst (λ found. IfSome found (λ o. OrderPasses c.deref-3.result.now c.from-bit.result o.items))
    c.in-Some.is
    c.in_ok-order.ensures.passes in
    let loads : load ≡ load_of problem problem.items labels =
    c.load_of_frames.ensures
    ∙ ap (λ hyper. sum_by (λ (f : Timed). f.ticks * (hyper / f.period)) c.deref-in-Some.result.now)
    c.hyper.ensures.hyper
    ∙ ap (sum_by (λ (f : Timed). f.ticks * (problem.hyper / f.period))) (c.deref-in-Some.ensures.value ∙ are)
    ∙ loads-sum problem labels (range_with_len 0 (classes_of labels)) in
    let base : IsTimed problem labels (Some (record { labels = labels; order = order; load = load })) =
    found-timed problem labels order c.deref-3.result.now c.from-bit.result load c.requires
    (c.deref-3.ensures.value ∙ are) time lowest passes loads in
    subst (λ l. IsTimed problem labels (Some (record {
      labels = l;
      order = c.of-in-Some.result;
      load =
          load;
    })))
    (sym c.of.ensures)
    (subst (λ o. IsTimed problem labels (Some (record { labels = labels; order = o; load = load })))
    (sym c.of-in-Some.ensures) base)
