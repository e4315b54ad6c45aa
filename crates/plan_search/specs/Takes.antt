-- What the code holds of the turns of senders: the project's own.
use Rattle.std.specs.Prelude.{ℕ, ◌≡◌, true, false, [], map, Option, None, Some}
use Rattle.pack_model.specs.Problem.{Parts}
use Rattle.cert_text.specs.PlainTree.{plain_lemma}
use Rattle.tree_search.specs.declared.finding.Found.{Found}
use Rattle.tree_search.specs.Open.{has_open}
use Rattle.tree_search.specs.Step.{Searched}
use Rattle.plan_search.specs.declared.turns.Ended.{Ended}
use Rattle.plan_search.specs.declared.turns.Taken.{Taken}
use Rattle.plan_search.specs.Begin.{Turns, after_turn, lemma_of}
use Rattle.plan_search.specs.Searches.{IsSearch}

-- what was taken so far
abbrev pub turns_of : Taken → Turns
turns_of taken = record {
  left = taken.left;
  lemmas = map plain_lemma taken.lemmas.items;
  groupings = taken.groupings.items;
}

-- a search over a sender's items that came to this end gives this: where it ended, its lemma and its grouping
abbrev pub Gives : Parts → ℕ → Searched → Option Ended → Type 0
Gives problem sender end None = has_open end.tree ≡ true
Gives problem sender end (Some ended) =
    (has_open end.tree ≡ false) × ((found : Found) × (end.found ≡ Some found)
    × (plain_lemma ended.lemma ≡ lemma_of problem sender found.load end.tree) × (ended.labels ≡ found.labels))

-- a sender's search within its share gives this
pub record IsSpent (problem : Parts) (sender share : ℕ) (given : Option Ended) : Type 0 where
  pub end : Searched
  pub search : IsSearch problem (Some sender) [] None share end
  pub gives : Gives problem sender end given

-- what the turn leaves where a sender's search gives this
abbrev pub Took : Option Ended → Turns → Turns → Type 0
Took None before after = after ≡ before
Took (Some ended) before after = after ≡ after_turn before (plain_lemma ended.lemma) ended.labels
