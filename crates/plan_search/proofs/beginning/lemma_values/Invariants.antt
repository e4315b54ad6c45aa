use Rattle.std.proofs.Common.{◌≡◌, drop, map, length, ◌-◌}
use Rattle.cert_text.specs.PlainTree.{plain_lemma}
use Rattle.bandwidth_bound.specs.Lemmas.{values_of}
use Rattle.plan_search.proofs.beginning.lemma_values.Given as goal

-- the values of the last lemmas
abbrev pub invariant-loop-k : goal.invariant-loop-k
invariant-loop-k l = l.values.items ≡ values_of l.problem
    (map plain_lemma (drop (length l.lemmas - l.k) l.lemmas))
