use Rattle.std.proofs.Common.{[], ◌∷◌, take}
use Rattle.std.specs.List.{flat_map}
use Rattle.cert_text.specs.declared.line.Line.TheVariants as line
use Rattle.cert_text.specs.Adding.{Adds}
use Rattle.cert_text.proofs.writing.put_frames.Given as goal

-- the frames so far were added
abbrev pub invariant-loop-frame : goal.invariant-loop-frame
invariant-loop-frame l = Adds l.initial.out.items l.out.items (flat_map (λ f. line.FrameWords f ∷ []) (take l.frame-index l.frames))
