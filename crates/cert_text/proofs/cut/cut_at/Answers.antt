use Rattle.std.proofs.Common.{◌∙◌, sym}
use Rattle.std.proofs.lemmas.List.{take_rest}
use Rattle.cert_text.proofs.CutAt.{cut_none, cut_some}
use Rattle.cert_text.proofs.cut.cut_at.Goals as goal

pub returns-in_err-place-clause-parts : goal.returns-in_err-place-clause-parts
returns-in_err-place-clause-parts c =
    rw c.from_residual.ensures (cut_none c.args.byte c.args.bytes.now (sym c.place_of.ensures ∙ c.in_err-place.was))

pub returns-clause-parts : goal.returns-clause-parts
returns-clause-parts c =
    rw take_rest (cut_some c.args.byte c.in_ok-place.place c.args.bytes.now (sym c.place_of.ensures ∙ c.in_ok-place.was))
