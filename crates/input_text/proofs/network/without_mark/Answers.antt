use Rattle.std.proofs.Common.{◌∙◌, refl, sym, drop, length, arith, length-drop, ◌-◌}
use Rattle.std.proofs.lemmas.Bool.{false≢true}
use Rattle.std.proofs.lemmas.Bool.Decides.{Decides-eqb}
use Rattle.std.proofs.lemmas.List.{take_all}
use Rattle.std.proofs.lemmas.Slice.Eq.{slice_eq-Decides}
use Rattle.input_text.proofs.NetworkLaws.{strip_bom-marked, strip_bom-unmarked}
use Rattle.input_text.proofs.network.without_mark.Goals as goal

pub returns-then-starts_with : goal.returns-then-starts_with
returns-then-starts_with c =
    let text = c.args.text.now in
    let same = slice_eq-Decides Decides-eqb _ _ _ c.if-starts_with.ensures.value in
    take_all (length text - 3) (drop 3 text) (omega (arith, length-drop 3 text))
    ∙ sym (strip_bom-marked text (same.0 refl))

pub returns-else-starts_with : goal.returns-else-starts_with
returns-else-starts_with c =
    let same = slice_eq-Decides Decides-eqb _ _ _ c.if-starts_with.ensures.value in
    sym (strip_bom-unmarked c.args.text.now (λ e. false≢true (same.1 e)))
