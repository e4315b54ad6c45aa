use Rattle.std.proofs.Common.{take}
use Rattle.std.specs.List.{flat_map}
use Rattle.cert_text.specs.Adding.{Adds}
use Rattle.cert_text.specs.CertEvents.{lemma_events}
use Rattle.cert_text.specs.Lines.{lines_of}
use Rattle.cert_text.specs.PlainTree.{plain_lemma}
use Rattle.cert_text.specs.Written.{written_lemma}
use Rattle.cert_text.proofs.writing.put_lemmas.Given as goal

-- the lemmas so far were added
abbrev pub invariant-loop-lemma : goal.invariant-loop-lemma
invariant-loop-lemma l =
    Adds l.initial.out.items l.out.items (flat_map (λ x. lines_of (lemma_events (written_lemma l.marks (plain_lemma x)))) (take l.lemma-index l.lemmas))
