use Rattle.std.proofs.Common.{◌≡◌, ◌<◌, ◌∙◌, ℕ, List, [], All, length, get_or, sym, ap, subst, arith}
use Rattle.pack_model.specs.Problem.{sent_by}
use Rattle.pack_model.proofs.Laws.{tests}
use Rattle.class_frame.specs.Legal.{IsLegal}
use Rattle.cert_text.specs.declared.parts.Lemma.{Lemma}
use Rattle.plan_search.specs.Takes.{turns_of}
use Rattle.plan_search.proofs.Beginnings.{all-stand, groupings-legal, lemmas-stand, nodes-counted, senders-there}
use Rattle.plan_search.proofs.FewSenders.{senders_few}
use Rattle.plan_search.proofs.Firsts.{first-stands}
use Rattle.plan_search.proofs.LemmaValues.{senders-low}
use Rattle.plan_search.proofs.beginning.begin.Goals as goal

pub first_best-requires : goal.first_best-requires
first_best-requires c =
    let problem = c.args.problem.now in
    let same : c.deref.result.now ≡ (turns_of c.in_ok-taken.taken).groupings = c.deref.ensures.value in
    λ all s lt.
    subst (λ groupings. IsLegal (sent_by problem.items s) (get_or groupings s [])) (sym same)
    (groupings-legal problem c.in_ok-taken.ensures.problem c.args.branches (turns_of c.in_ok-taken.taken)
    c.in_ok-taken.ensures.turns (sym (ap (λ (gs : List (List ℕ)). length gs) same) ∙ all) s lt)

pub lemma_values-requires : goal.lemma_values-requires
lemma_values-requires c =
    let problem = c.args.problem.now in
    subst (All (λ (lemma : Lemma). lemma.sender < length problem.senders)) (sym c.deref-2.ensures.value)
    (senders-low problem c.in_ok-taken.taken.lemmas.items
    (senders-there problem c.in_ok-taken.ensures.problem c.args.branches (turns_of c.in_ok-taken.taken)
    c.in_ok-taken.ensures.turns))

pub returns-clause-stand : goal.returns-clause-stand
returns-clause-stand c =
    lemmas-stand c.args.problem.now c.in_ok-taken.ensures.problem c.args.branches
    (turns_of c.in_ok-taken.taken)
    c.in_ok-taken.ensures.turns

pub returns-clause-trimmed : goal.returns-clause-trimmed
returns-clause-trimmed c =
    (all-stand c.args.problem.now c.in_ok-taken.ensures.problem c.args.branches (turns_of c.in_ok-taken.taken)
    c.in_ok-taken.ensures.turns).are_trimmed

pub returns-clause-nodes : goal.returns-clause-nodes
returns-clause-nodes c =
    (all-stand c.args.problem.now c.in_ok-taken.ensures.problem c.args.branches (turns_of c.in_ok-taken.taken)
    c.in_ok-taken.ensures.turns).nodes

pub returns-clause-counted : goal.returns-clause-counted
returns-clause-counted c =
    nodes-counted c.args.problem.now c.in_ok-taken.ensures.problem c.args.branches
    (turns_of c.in_ok-taken.taken)
    c.in_ok-taken.ensures.turns

pub returns-clause-first_stands : goal.returns-clause-first_stands
returns-clause-first_stands c =
    first-stands c.args.problem.now (turns_of c.in_ok-taken.taken) c.in_ok-first.first
    (c.in_ok-first.ensures.first (turns_of c.in_ok-taken.taken) (sym c.deref.ensures.value))

pub returns-clause-fits : goal.returns-clause-fits
returns-clause-fits c =
    let problem = c.args.problem.now in
    let turns = turns_of c.in_ok-taken.taken in
    let low = senders-there problem c.in_ok-taken.ensures.problem c.args.branches turns
    c.in_ok-taken.ensures.turns in
    let at = all-stand problem c.in_ok-taken.ensures.problem c.args.branches turns
    c.in_ok-taken.ensures.turns in
    λ k d lt. (
      omega (
        arith,
        low k d lt,
        senders_few problem c.in_ok-taken.ensures.problem c.in_ok-first.ensures.sorted,
        (tests problem c.in_ok-taken.ensures.problem).few_items,
      ),
      at.fit k d lt,
    )
