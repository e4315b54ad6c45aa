use Rattle.std.proofs.Common.{◌∙◌, ap, sym, arith}
use Rattle.class_frame.specs.Sums.{with_signal}
use Rattle.class_frame.proofs.Joining.{times_of-more}
use Rattle.class_frame.proofs.times.Times.of.Goals as goal

pub loop-place-preserved : goal.loop-place-preserved
loop-place-preserved c =
    c.with_signal-times.ensures ∙ ap (λ times. with_signal times c.index-signals-place.result) c.loop-place.invariant
    ∙ sym (times_of-more c.args.signals.now c.args.places.now c.loop-place.place-index c.index-signals-place.result (omega arith) (c.requires c.loop-place.place-index 0 (omega arith)) c.index-signals-place.is)
