use Rattle.std.proofs.Common.{◌<◌, ◌-◌, ◌∙◌, ℕ, List, drop, length, map, replicate, ap, arith}
use Rattle.cert_text.specs.PlainTree.{plain_lemma}
use Rattle.cert_text.specs.declared.parts.Lemma.{Lemma}
use Rattle.plan_search.proofs.LemmaValues.{length-values, values-none, values-step}
use Rattle.plan_search.proofs.beginning.lemma_values.Goals as goal

pub loop-k-init : goal.loop-k-init
loop-k-init c =
    values-none c.args.problem.now c.args.lemmas.now c.in_ok-values.values.items
    (c.in_ok-values.ensures.items_if_clones_equal (λ y h. h)
    ∙ ap (λ (senders : List (List ℕ)). replicate (length senders) 0) c.senders.ensures.senders)

pub index_mut-requires : goal.index_mut-requires
index_mut-requires c =
    omega (
      arith,
      ap (λ (l : Lemma). l.sender) c.index-lemmas-lemmas.is,
      c.requires (length c.args.lemmas.now - 1 - c.loop-k.k) c.index-lemmas-lemmas.result
          (omega (arith, c.loop-k-test.true)),
      c.loop-k.values.ok.0,
      ap (λ (values : List ℕ). length values) c.loop-k.invariant,
      length-values c.args.problem.now
          (map plain_lemma (drop (length c.args.lemmas.now - c.loop-k.k) c.args.lemmas.now)),
    )

pub loop-k-preserved : goal.loop-k-preserved
loop-k-preserved c =
    let lemmas = c.args.lemmas.now in
    let lemma = c.index-lemmas-lemmas.result in
    let low : lemma.sender < length c.args.problem.now.senders =
    omega (
      arith,
      ap (λ (l : Lemma). l.sender) c.index-lemmas-lemmas.is,
      c.requires (length lemmas - 1 - c.loop-k.k) lemma (omega (arith, c.loop-k-test.true)),
    ) in
    values-step c.args.problem.now lemmas lemma c.loop-k.k c.loop-k.values.items c.loop-k-test.true
    c.index-lemmas-lemmas.is low c.loop-k.invariant
