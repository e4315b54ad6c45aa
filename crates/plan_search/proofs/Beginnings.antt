-- What a plan begins with.
use Rattle.std.proofs.Common.{◌≡◌, ℕ, ◌<◌, ◌≤◌, Bool, true, false, cond, [], length, get_or, All, arith}
use Rattle.std.proofs.lemmas.List.Elements.{All-weaker}
use Rattle.pack_model.specs.Problem.{Parts, IsProblem, sent_by}
use Rattle.class_frame.specs.Legal.{IsLegal}
use Rattle.cert_text.specs.Parts.{LemmaOf}
use Rattle.cert_text.specs.Trees.{Plain}
use Rattle.bandwidth_bound.specs.Lemmas.{LemmasStand}
use Rattle.plan_search.specs.Begin.{AreTurns, Turns, has_turns, turn_count}
use Rattle.plan_search.specs.Searches.{nodes_of_lemmas, places_of_first}
use Rattle.plan_search.proofs.TurnLaws.{TurnsStand, turns-stand}
use Rattle.plan_search.proofs.TurnSteps.{count-le}

module _ (problem : Parts) (stands : IsProblem problem) (branches : ℕ) (turns : Turns)
    (are : AreTurns problem branches (turn_count problem) turns) where
  -- all turns stand
  pub all-stand : TurnsStand problem stands branches (turn_count problem) turns
  all-stand = turns-stand problem stands branches (turn_count problem) turns (count-le problem) are

  -- where there is a grouping for each sender, each is a legal one of its items
  pub groupings-legal : length turns.groupings ≡ length problem.senders → (s : ℕ) → s < length problem.senders
      → IsLegal (sent_by problem.items s) (get_or turns.groupings s [])
  groupings-legal all s lt = by (has_turns problem) all-stand
    where
      by : (b : Bool) → TurnsStand problem stands branches (cond b (length problem.senders) 0) turns
          → IsLegal (sent_by problem.items s) (get_or turns.groupings s [])
      by true at = at.legal all s lt
      by false at = absurd (omega (arith, at.few, all))

  pub lemmas-stand : LemmasStand problem turns.lemmas
  lemmas-stand = record { ascending = all-stand.ascending; each = all-stand.each }

  pub nodes-counted : nodes_of_lemmas turns.lemmas ≤ places_of_first problem (length problem.senders)
  nodes-counted = by (has_turns problem) all-stand
    where
      by : (b : Bool) → TurnsStand problem stands branches (cond b (length problem.senders) 0) turns
          → nodes_of_lemmas turns.lemmas ≤ places_of_first problem (length problem.senders)
      by true at = at.counted
      by false at = let none : nodes_of_lemmas turns.lemmas ≤ 0 = at.counted in omega arith

  pub senders-there : All (λ lemma. lemma.sender < length problem.senders) turns.lemmas
  senders-there =
      All-weaker (λ (lemma : LemmaOf Plain). lemma.sender < turn_count problem)
      (λ (lemma : LemmaOf Plain). lemma.sender < length problem.senders)
      (λ lemma lt. omega (arith, lt, count-le problem)) turns.lemmas all-stand.below
