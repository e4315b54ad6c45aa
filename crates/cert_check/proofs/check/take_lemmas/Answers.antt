use Rattle.std.proofs.Common.{◌≡◌, ◌+◌, ◌++◌, ◌∷◌, ◌∙◌, [], List, ap, map, refl, sym, take}
use Rattle.std.proofs.lemmas.List.{map-append, take_all, take_more}
use Rattle.std.proofs.lemmas.List.Sums.{fold-append}
use Rattle.cert_text.specs.declared.parts.Lemma.{Lemma}
use Rattle.cert_text.specs.PlainTree.{plain_lemma}
use Rattle.cert_check.specs.Said.{lemma_said, lemmas_said}
use Rattle.cert_check.proofs.StoreLaws.{still, stores_same, stores_then}
use Rattle.cert_check.proofs.check.take_lemmas.Goals as goal

pub loop-lemma-init : goal.loop-lemma-init
loop-lemma-init c = record { stores = λ rows s stores. stores; placing = refl }

pub take_lemma-requires : goal.take_lemma-requires
take_lemma-requires c = still c.loop-lemma.invariant c.requires

pub take_tree-requires : goal.take_tree-requires
take_tree-requires c = still c.take_lemma.ensures (still c.loop-lemma.invariant c.requires)

pub loop-lemma-preserved : goal.loop-lemma-preserved
loop-lemma-preserved c =
    let so_far : List Lemma = take c.loop-lemma.lemma-index c.args.lemmas.now in
    let more : map plain_lemma (take (c.loop-lemma.lemma-index + 1) c.args.lemmas.now)
    ≡ map plain_lemma so_far ++ plain_lemma c.lemma-item.result ∷ [] =
    ap (map plain_lemma) (take_more c.args.lemmas.now c.loop-lemma.lemma-index c.lemma-item.result
    c.loop-lemma-test.true ∙ ap (λ l. so_far ++ l ∷ []) (sym c.lemma-item.is))
    ∙ map-append plain_lemma so_far (c.lemma-item.result ∷ []) in
    stores_same (lemmas_said (map plain_lemma (take (c.loop-lemma.lemma-index + 1) c.args.lemmas.now)))
    (λ s. sym (ap (λ ls. lemmas_said ls s) more
    ∙ fold-append lemma_said s (map plain_lemma so_far) (plain_lemma c.lemma-item.result ∷ [])))
    (stores_then (stores_then c.loop-lemma.invariant c.take_lemma.ensures) c.take_tree.ensures)

pub returns : goal.returns
returns c =
    stores_same (lemmas_said (map plain_lemma c.args.lemmas.now))
    (λ s. ap (λ ls. lemmas_said (map plain_lemma ls) s)
    (take_all c.loop-lemma.lemma-index c.args.lemmas.now c.loop-lemma-test.false))
    c.loop-lemma.invariant
