use Rattle.std.proofs.Common.{◌<◌, arith, refl, ap, ◌∙◌, length, take, ◌+◌}
use Rattle.placed_matrix.proofs.InUse.{in_use_bound, in_use_taken, in_use_passed}
use Rattle.placed_matrix.proofs.frames.put_in_order.Goals as goal
use Rattle.placed_matrix.proofs.frames.put_in_order.Goals.{then-label, else-label}

pub bounds-order-place : goal.bounds-order-place
bounds-order-place c =
    let within : c.loop-label.label-index < length c.args.label_of.now = omega arith in
    omega (
      arith,
      in_use_bound c.args.label_of.now c.loop-label.label-index within c.if-label.true,
      c.requires,
      c.loop-label.invariant.count,
      c.loop-label.auto.order,
    )

pub loop-label-preserved : goal.loop-label-preserved
loop-label-preserved c =
    let within : c.loop-label.label-index < length c.args.label_of.now = omega arith in
    elim c.if-label.branch [
      | then-label w ↦
          let room : c.loop-label.place < length c.loop-label.order =
          omega (
            arith,
            in_use_bound c.args.label_of.now c.loop-label.label-index within w.if-label.true,
            c.requires,
            c.loop-label.invariant.count,
            c.loop-label.auto.order,
          ) in
          let step =
          in_use_taken c.args.label_of.now c.loop-label.order c.loop-label.label-index c.loop-label.place
          _ within refl w.if-label.true room c.loop-label.invariant.count c.loop-label.invariant.order in
          record {
            count = w.place-is ∙ step.0;
            order = ap (λ n. take n c.if-label.order) w.place-is
                ∙ ap (take (c.loop-label.place + 1)) w.order-is ∙ step.1;
          }
      | else-label w ↦
          let step =
          in_use_passed c.args.label_of.now c.loop-label.order c.loop-label.label-index c.loop-label.place
          _ within refl w.if-label.false c.loop-label.invariant.count c.loop-label.invariant.order in
          record {
            count = w.place-is ∙ step.0;
            order = ap (λ n. take n c.if-label.order) w.place-is
                ∙ ap (take c.loop-label.place) w.order-is ∙ step.1;
          }
    ]
