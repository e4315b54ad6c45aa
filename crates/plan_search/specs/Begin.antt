-- How a plan begins: a lemma for each sender whose search ends within its share, and the first best
-- grouping. The project's own.
use Rattle.std.specs.Prelude.{ℕ, zero, suc, ◌≡◌, ◌+◌, ◌-◌, ◌*◌, ◌/◌, Bool, true, false, ◌&&◌, List, [], ◌∷◌, ◌++◌, length, map, nat_eq, nat_le, nat_lt, Option, Some, None, cond}
use Rattle.pack_model.specs.Problem.{Parts}
use Rattle.response_test.specs.Order.{OrderPasses}
use Rattle.priority_assign.specs.Lowest.{IsLowestFirst}
use Rattle.class_frame.specs.Classes.{load_of}
use Rattle.class_frame.specs.Grouping.{classes_of}
use Rattle.cert_text.specs.Parts.{LemmaOf}
use Rattle.cert_text.specs.Trees.{Plain}
use Rattle.bandwidth_bound.specs.Solvable.{Solvable}
use Rattle.search_judge.specs.Findings.{frames_at}
use Rattle.tree_search.specs.declared.finding.Found.{Found}
use Rattle.tree_search.specs.Open.{has_open, nodes_of}
use Rattle.tree_search.specs.Step.{Searched}
use Rattle.plan_search.specs.Alone.{labels_alone}
use Rattle.plan_search.specs.Searches.{IsSearch, trimmed}

-- What the turns of senders leave: the branches left, the lemmas, and the groupings of the senders whose
-- search ended.
pub record Turns : Type 0 where
  pub left : ℕ
  pub lemmas : List (LemmaOf Plain)
  pub groupings : List (List ℕ)

-- before the first turn
abbrev pub no_turns : ℕ → Turns
no_turns branches = record { left = branches; lemmas = []; groupings = [] }

-- the share of a sender in the branches that are left, where so many senders have had no turn yet, this one
-- included
abbrev pub share_of : ℕ → ℕ → ℕ
share_of left waiting = left / (waiting + 1)

-- the lemma of a sender whose search ended with this least load
abbrev pub lemma_of : Parts → ℕ → ℕ → Plain → LemmaOf Plain
lemma_of problem sender load tree = record {
  sender = sender;
  value = 8 * load;
  tree = trimmed problem (Some sender) [] (8 * load) tree;
}

-- what a sender's turn leaves where its search ended with this grouping
abbrev pub after_turn : Turns → LemmaOf Plain → List ℕ → Turns
after_turn before lemma labels = record {
  left = before.left - nodes_of lemma.tree;
  lemmas = before.lemmas ++ lemma ∷ [];
  groupings = before.groupings ++ labels ∷ [];
}

-- a sender's turn: its search within its share ended, and gives a lemma and a grouping, or it gives and takes
-- nothing
pub record IsTurn (problem : Parts) (sender : ℕ) (before after : Turns) : Type 0 where
  pub end : Searched
  pub search : IsSearch problem (Some sender) [] None
      (share_of before.left (length problem.senders - sender)) end
  pub ended : has_open end.tree ≡ false → (found : Found) × (end.found ≡ Some found)
      × (after ≡ after_turn before (lemma_of problem sender found.load end.tree) found.labels)
  pub spent : has_open end.tree ≡ true → after ≡ before

-- the turns of the first senders
abbrev pub AreTurns : Parts → ℕ → ℕ → Turns → Type 0
AreTurns problem branches zero after = after ≡ no_turns branches
AreTurns problem branches (suc sender) after =
    (before : Turns) × AreTurns problem branches sender before × IsTurn problem sender before after

-- there are two or more senders; else none has a turn
abbrev pub has_turns : Parts → Bool
has_turns problem = nat_le 2 (length problem.senders)

-- the groupings of senders put together: each one's labels follow those of the ones before, of which there
-- are so many
abbrev pub put_together : ℕ → List (List ℕ) → List ℕ
put_together classes [] = []
put_together classes (labels ∷ groupings) =
    map (λ label. classes + label) labels ++ put_together (classes + classes_of labels) groupings

-- the senders' own best groupings put together, where there is one for each of two or more senders
abbrev pub grouping_of_all : Parts → List (List ℕ) → Option (List ℕ)
grouping_of_all problem groupings =
    cond (has_turns problem && nat_eq (length groupings) (length problem.senders))
    (Some (put_together 0 groupings)) None

-- the same of the groupings that turns leave
abbrev pub grouping_by_sender : Parts → Turns → Option (List ℕ)
grouping_by_sender problem turns = grouping_of_all problem turns.groupings

-- a grouping with the order of lowest-priority-first assignment, in which each frame passes, and its load
pub record IsFound (problem : Parts) (labels : List ℕ) (found : Found) : Type 0 where
  pub labels_are : found.labels ≡ labels
  pub lowest_first : IsLowestFirst (frames_at problem labels) problem.network.nominal_ticks 0 found.order
  pub passes : OrderPasses (frames_at problem labels) problem.network.nominal_ticks found.order
  pub load_is : found.load ≡ load_of problem problem.items labels

-- a grouping with its order, where some order of its frames passes
abbrev pub IsTimed : Parts → List ℕ → Option Found → Type 0
IsTimed problem labels None = ¬ Solvable problem labels
IsTimed problem labels (Some found) = Solvable problem labels × IsFound problem labels found

-- the same of a grouping that may not be there
abbrev pub IsTimedIf : Parts → Option (List ℕ) → Option Found → Type 0
IsTimedIf problem None found = found ≡ None
IsTimedIf problem (Some labels) found = IsTimed problem labels found

-- the one of the lesser load, the first where the loads are equal
abbrev pub better_of : Option Found → Option Found → Option Found
better_of None other = other
better_of (Some one) None = Some one
better_of (Some one) (Some other) = cond (nat_lt other.load one.load) (Some other) (Some one)

-- the first best: of the senders' own best groupings put together and of each item alone, those that can meet
-- all deadlines, the one of the lesser load
pub record IsFirst (problem : Parts) (turns : Turns) (first : Option Found) : Type 0 where
  pub together : Option Found
  pub alone : Option Found
  pub together_is : IsTimedIf problem (grouping_by_sender problem turns) together
  pub alone_is : IsTimed problem (labels_alone problem) alone
  pub first_is : first ≡ better_of together alone

-- how many senders have a turn
abbrev pub turn_count : Parts → ℕ
turn_count problem = cond (has_turns problem) (length problem.senders) 0

-- a plan begins with these lemmas, these branches left, and this first best
pub record Begins (problem : Parts) (branches : ℕ) (lemmas : List (LemmaOf Plain)) (left : ℕ)
    (first : Option Found) : Type 0 where
  pub turns : Turns
  pub are : AreTurns problem branches (turn_count problem) turns
  pub lemmas_are : lemmas ≡ turns.lemmas
  pub left_is : left ≡ turns.left
  pub first_is : IsFirst problem turns first
