use Rattle.std.proofs.Common.{◌∷◌, [], List, length, get_or, All, sym, subst, arith, ap, length-append}
use Rattle.std.proofs.lemmas.List.Elements.{All-append, All-cons, All-nil}
use Rattle.cert_text.specs.declared.parts.FrameLine.{FrameLine}
use Rattle.cert_text.specs.Written.{HasRoom}
use Rattle.plan_search.specs.Lines.{IsLeastLine}
use Rattle.plan_search.proofs.Pushed.{each_more}
use Rattle.plan_search.proofs.lines.least_lines.Goals as goal

pub loop-place-preserved : goal.loop-place-preserved
loop-place-preserved c =
    let line : FrameLine = c.in_ok-least_line.field-0 in
    let lines : List FrameLine = c.loop-place.lines.items in
    record {
      count = omega (
        arith,
        ap length c.in_ok-push.ensures.items,
        length-append lines (line ∷ []),
        c.loop-place.invariant.count,
      );
      each = λ k d lt.
          subst (λ l. IsLeastLine c.args.frames.now c.args.order.now c.args.bit k (get_or l k d))
          (sym c.in_ok-push.ensures.items)
          (each_more (IsLeastLine c.args.frames.now c.args.order.now c.args.bit) lines line
          c.loop-place.place c.loop-place.invariant.count
          c.loop-place.invariant.each c.in_ok-least_line.ensures.least k d lt);
      room = subst (All HasRoom) (sym c.in_ok-push.ensures.items)
          (All-append HasRoom lines (line ∷ []) c.loop-place.invariant.room
          (All-cons HasRoom line [] c.in_ok-least_line.ensures.room (All-nil HasRoom)));
    }
