use Rattle.std.proofs.Common.{refl, subst}
use Rattle.cert_text.specs.Adding.{Adds}
use Rattle.cert_text.specs.CertEvents.{lemma_events}
use Rattle.cert_text.specs.Lines.{lines_of}
use Rattle.cert_text.specs.PlainTree.{plain_lemma}
use Rattle.cert_text.specs.Written.{written_lemma}
use Rattle.cert_text.proofs.Adds.{adds-all, adds-more, adds-none}
use Rattle.cert_text.proofs.TreeLines.{lemmas_lines}
use Rattle.cert_text.proofs.writing.put_lemmas.Goals as goal

pub loop-lemma-init : goal.loop-lemma-init
loop-lemma-init c = adds-none _ _ refl

pub loop-lemma-preserved : goal.loop-lemma-preserved
loop-lemma-preserved c =
    adds-more (λ x. lines_of (lemma_events (written_lemma c.args.marks (plain_lemma x)))) c.args.lemmas.now c.loop-lemma.lemma-index c.lemma-item.result c.args.out.now.items c.loop-lemma.out.items c.put_lemma.new.out.items
    c.loop-lemma-test.true c.lemma-item.is c.loop-lemma.invariant c.in_ok-put_lemma.ensures

pub returns : goal.returns
returns c =
    subst (Adds c.args.out.now.items c.loop-lemma.out.items) (lemmas_lines c.args.marks c.args.lemmas.now)
    (adds-all (λ x. lines_of (lemma_events (written_lemma c.args.marks (plain_lemma x)))) c.args.lemmas.now c.loop-lemma.lemma-index c.args.out.now.items c.loop-lemma.out.items c.loop-lemma-test.false c.loop-lemma.invariant)
