use Rattle.std.proofs.Common.{◌∷◌, [], length, get_or, ap, sym, subst, arith, length-append}
use Rattle.response_test.specs.Frame.{FrameLeastStart}
use Rattle.plan_search.proofs.LeastLines.{has_busy, least_has_room}
use Rattle.plan_search.proofs.Pushed.{each_more}
use Rattle.plan_search.proofs.lines.least_line.Goals as goal

pub unwrap-busy-requires : goal.unwrap-busy-requires
unwrap-busy-requires c = has_busy c.args.frames.now c.args.order.now c.args.bit c.args.place
    c.least_busy.result c.requires.passes c.least_busy.ensures.none

pub loop-instance-preserved : goal.loop-instance-preserved
loop-instance-preserved c = record {
  count = omega (
    arith,
    ap length c.in_ok-push.ensures.items,
    length-append c.loop-instance.queue.items
        (c.least_queue.result ∷ []),
    c.loop-instance.invariant.count,
  );
  starts = λ k d lt.
      subst (λ l. FrameLeastStart c.args.frames.now c.args.order.now c.args.place c.args.bit k
      (get_or l k d)) (sym c.in_ok-push.ensures.items)
      (each_more (FrameLeastStart c.args.frames.now c.args.order.now c.args.place c.args.bit)
      c.loop-instance.queue.items c.least_queue.result c.loop-instance.instance
      c.loop-instance.invariant.count
      c.loop-instance.invariant.starts c.least_queue.ensures.least k d lt);
}

pub returns-clause-least : goal.returns-clause-least
returns-clause-least c = record {
  busy = rw c.unwrap-busy.ensures at c.least_busy.ensures.least;
  count = omega (
    arith,
    ap length c.of.ensures,
    c.loop-instance.invariant.count,
    c.instances-instance-end.ensures,
  );
  starts = λ k lt.
      subst (λ l. FrameLeastStart c.args.frames.now c.args.order.now c.args.place c.args.bit k
      (get_or l k 0)) (sym c.of.ensures)
      (c.loop-instance.invariant.starts k 0 (omega (
        arith,
        lt,
        ap length c.of.ensures,
        c.loop-instance.invariant.count,
      )));
}

pub returns-clause-room : goal.returns-clause-room
returns-clause-room c =
    least_has_room c.args.frames.now c.args.order.now c.args.bit c.args.place
    (record { busy = c.unwrap-busy.result; queue = c.of.result }) (record {
      busy = rw c.unwrap-busy.ensures at c.least_busy.ensures.least;
      count = omega (
        arith,
        ap length c.of.ensures,
        c.loop-instance.invariant.count,
        c.instances-instance-end.ensures,
      );
      starts = λ k lt.
          subst (λ l. FrameLeastStart c.args.frames.now c.args.order.now c.args.place c.args.bit k
          (get_or l k 0)) (sym c.of.ensures)
          (c.loop-instance.invariant.starts k 0 (omega (
            arith,
            lt,
            ap length c.of.ensures,
            c.loop-instance.invariant.count,
          )));
    }) c.requires.stage
