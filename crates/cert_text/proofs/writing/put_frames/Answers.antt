use Rattle.std.proofs.Common.{[], ◌∷◌, refl, subst, sym}
use Rattle.std.proofs.lemmas.List.Folds.{flat_map-map}
use Rattle.cert_text.specs.declared.event.Event.TheVariants as event
use Rattle.cert_text.specs.declared.line.Line.TheVariants as line
use Rattle.cert_text.specs.Adding.{Adds}
use Rattle.cert_text.specs.Lines.{event_lines}
use Rattle.cert_text.proofs.Adds.{adds-all, adds-more, adds-none}
use Rattle.cert_text.proofs.writing.put_frames.Goals as goal

pub loop-frame-init : goal.loop-frame-init
loop-frame-init c = adds-none _ _ refl

pub loop-frame-preserved : goal.loop-frame-preserved
loop-frame-preserved c =
    adds-more (λ f. line.FrameWords f ∷ []) c.args.frames.now c.loop-frame.frame-index c.frame-item.result c.args.out.now.items c.loop-frame.out.items c.put_frame.new.out.items c.loop-frame-test.true c.frame-item.is
    c.loop-frame.invariant c.in_ok-put_frame.ensures

pub returns : goal.returns
returns c =
    subst (Adds c.args.out.now.items c.loop-frame.out.items) (sym (flat_map-map event_lines event.FrameOf c.args.frames.now))
    (adds-all (λ f. line.FrameWords f ∷ []) c.args.frames.now c.loop-frame.frame-index c.args.out.now.items c.loop-frame.out.items c.loop-frame-test.false c.loop-frame.invariant)
