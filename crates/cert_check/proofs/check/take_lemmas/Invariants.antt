use Rattle.std.proofs.Common.{map, take}
use Rattle.cert_text.specs.PlainTree.{plain_lemma}
use Rattle.cert_check.specs.Said.{lemmas_said}
use Rattle.cert_check.specs.Taken.{StoresMore}
use Rattle.cert_check.proofs.check.take_lemmas.Given as goal

-- the lemmas so far were taken
abbrev pub invariant-loop-lemma : goal.invariant-loop-lemma
invariant-loop-lemma l =
    StoresMore l.problem l.fn.walk l.walk (lemmas_said (map plain_lemma (take l.lemma-index l.lemmas)))
