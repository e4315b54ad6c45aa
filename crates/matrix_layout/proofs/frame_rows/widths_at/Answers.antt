use Rattle.std.proofs.Common.{ap, ◌∙◌, sym, arith, ◌++◌, ◌∷◌, [], take}
use Rattle.std.proofs.lemmas.List.{map_push}
use Rattle.pack_model.specs.declared.signal.Signal.{Signal}
use Rattle.matrix_layout.specs.LaidOut.{signals_at, widths_of}
use Rattle.matrix_layout.proofs.Picked.{pick-more}
use Rattle.matrix_layout.proofs.frame_rows.widths_at.Goals as goal

pub loop-place-preserved : goal.loop-place-preserved
loop-place-preserved c =
    c.in_ok-push.ensures.items
    ∙ ap (λ s. c.loop-place.widths.items ++ s.bits ∷ []) (sym c.index-signals-place.is)
    ∙ ap (λ ws. ws ++ c.index-signals-place.result.bits ∷ []) c.loop-place.invariant
    ∙ sym (ap widths_of (pick-more c.args.signals.now c.args.places.now c.loop-place.place-index
    c.index-signals-place.result (omega arith)
    (c.requires c.loop-place.place-index 0 (omega arith)) c.index-signals-place.is)
    ∙ map_push (λ (s : Signal). s.bits)
    (signals_at c.args.signals.now (take c.loop-place.place-index c.args.places.now))
    c.index-signals-place.result)
