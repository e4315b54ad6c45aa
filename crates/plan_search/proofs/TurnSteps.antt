-- A sender's turn in the code.
use Rattle.std.proofs.Common.{◌≡◌, ℕ, suc, ◌+◌, ◌-◌, ◌<◌, ◌≤◌, Bool, true, false, cond, length, [], Option, Some, None, refl, ap, subst, ◌∙◌, arith}
use Rattle.pack_model.specs.Problem.{Parts, IsProblem}
use Rattle.cert_text.specs.Parts.{LemmaOf}
use Rattle.cert_text.specs.PlainTree.{plain_of}
use Rattle.cert_text.specs.Trees.{Plain}
use Rattle.tree_search.specs.Open.{has_open, nodes_of}
use Rattle.tree_search.specs.Step.{Searched}
use Rattle.plan_search.specs.declared.turns.Ended.{Ended}
use Rattle.plan_search.specs.Begin.{AreTurns, IsTurn, Turns, after_turn, has_turns, lemma_of, share_of, turn_count}
use Rattle.plan_search.specs.Searches.{IsSearch}
use Rattle.plan_search.specs.Takes.{Gives, IsSpent, Took}
use Rattle.plan_search.proofs.Sought.{ended}

-- where a sender has a turn, each has one
pub count-is : (problem : Parts) (n : ℕ) → n < turn_count problem → turn_count problem
    ≡ length problem.senders
count-is problem n = by (has_turns problem)
  where
    by : (b : Bool) → n < cond b (length problem.senders) 0
        → cond b (length problem.senders) 0 ≡ length problem.senders
    by true lt = refl
    by false lt = absurd (omega arith)

-- no more senders have a turn than there are
pub count-le : (problem : Parts) → turn_count problem ≤ length problem.senders
count-le problem = by (has_turns problem)
  where
    by : (b : Bool) → cond b (length problem.senders) 0 ≤ length problem.senders
    by true = omega arith
    by false = omega arith

-- the tree that a search within its share gives has no more nodes
pub turn-fits : (problem : Parts) (stands : IsProblem problem) (n share : ℕ) (given : Option Ended)
    (one : Ended)
    → IsSpent problem n share given → given ≡ Some one → nodes_of (plain_of one.lemma.tree) ≤ share
turn-fits problem stands n share given one spent is =
    let it : IsSpent problem n share (Some one) = subst (IsSpent problem n share) is spent in
    let given = it.gives in
    let fits = ended problem stands n share it.end it.search given.0 given.1.0 given.1.1 in
    omega (arith, ap (λ (l : LemmaOf Plain). nodes_of l.tree) given.1.2, fits.within)

both : {A : Type 0} (b : Bool) → b ≡ true → b ≡ false → A
both true e f = absurd cc
both false e f = absurd cc

module _ (problem : Parts) (branches n : ℕ) (before after : Turns) where
  turn-is : (given : Option Ended) (end : Searched)
      → IsSearch problem (Some n) [] None (share_of before.left (length problem.senders - n)) end
      → Gives problem n end given → Took given before after → IsTurn problem n before after
  turn-is None end search gives took = record {
    end = end;
    search = search;
    ended = λ closed. both (has_open end.tree) gives closed;
    spent = λ left. took;
  }
  turn-is (Some one) end search gives took =
      record {
        end = end;
        search = search;
        ended = λ closed. (
          gives.1.0,
          gives.1.1,
          took ∙ ap (λ l. after_turn before l one.labels) gives.1.2
              ∙ ap (after_turn before (lemma_of problem n gives.1.0.load end.tree)) gives.1.3,
        );
        spent = λ left. both (has_open end.tree) left gives.0;
      }

  -- the turns with one more
  pub turn-more : (share : ℕ) (given : Option Ended) → AreTurns problem branches n before
      → IsSpent problem n share given → share ≡ share_of before.left (length problem.senders - n)
      → Took given before after → AreTurns problem branches (n + 1) after
  turn-more share given are spent same took =
      let more : suc n ≡ n + 1 = omega arith in
      subst (λ m. AreTurns problem branches m after) more
      (let turn : AreTurns problem branches (suc n) after = (
        before,
        are,
        turn-is given spent.end
            (subst (λ s. IsSearch problem (Some n) [] None s spent.end) same spent.search) spent.gives took,
      ) in turn)
