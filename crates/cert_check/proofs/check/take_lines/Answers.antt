use Rattle.std.proofs.Common.{◌+◌, ◌++◌, ◌∷◌, ◌∙◌, [], List, ap, append-nil, append_assoc, refl, subst, sym, take}
use Rattle.std.proofs.lemmas.List.{take_all, take_more}
use Rattle.cert_text.specs.declared.parts.FrameLine.{FrameLine}
use Rattle.cert_check.specs.Said.{with_lines}
use Rattle.cert_check.specs.Taken.{Stores}
use Rattle.cert_check.proofs.StoreLaws.{still, stores_same, stores_then}
use Rattle.cert_check.proofs.check.take_lines.Goals as goal

pub loop-line-init : goal.loop-line-init
loop-line-init c = record {
  stores = λ rows s stores.
      subst (λ ls. Stores c.args.problem.now rows c.args.walk.now (record s { lines = ls }))
      (sym (append-nil s.lines)) stores;
  placing = refl;
}

pub take_line-requires : goal.take_line-requires
take_line-requires c = still c.loop-line.invariant c.requires

pub loop-line-preserved : goal.loop-line-preserved
loop-line-preserved c =
    let so_far : List FrameLine = take c.loop-line.line-index c.args.lines.now in
    stores_same (with_lines (take (c.loop-line.line-index + 1) c.args.lines.now))
    (λ s i. record s {
      lines = (append_assoc s.lines so_far (c.line-item.result ∷ [])
          ∙ ap (λ ls. s.lines ++ ls) (ap (λ l. so_far ++ l ∷ []) c.line-item.is
          ∙ sym (take_more c.args.lines.now c.loop-line.line-index c.line-item.result c.loop-line-test.true))) i;
    })
    (stores_then c.loop-line.invariant c.take_line.ensures)

pub returns : goal.returns
returns c =
    stores_same (with_lines c.args.lines.now)
    (λ s. ap (λ ls. with_lines ls s) (take_all c.loop-line.line-index c.args.lines.now c.loop-line-test.false))
    c.loop-line.invariant
