use Rattle.std.proofs.Common.{[], ◌∷◌, take}
use Rattle.std.specs.List.{flat_map}
use Rattle.cert_text.specs.Adding.{Adds}
use Rattle.cert_text.specs.Lines.{against}
use Rattle.cert_text.proofs.writing.put_fail.Given as goal

-- the evidence so far was added
abbrev pub invariant-loop-label : goal.invariant-loop-label
invariant-loop-label l = Adds l.initial.out.items l.out.items (flat_map (λ x. against x ∷ []) (take l.label-index l.pieces))
