-- Lemmas: what the frames of one sender load at least, each shown by a tree over its groupings. The project's
-- own.
use Rattle.std.specs.Prelude.{ℕ, ◌≤◌, ◌<◌, ◌*◌, ◌==◌, List, [], ◌∷◌, length, map, All, slice_index_or, if◌then◌else◌}
use Rattle.std.specs.List.{range_with_len}
use Rattle.std.specs.List.Sorted.{IsStrictlyIncreasing}
use Rattle.pack_model.specs.Problem.{Parts, IsProblem, sent_by}
use Rattle.class_frame.specs.Classes.{load_of}
use Rattle.class_frame.specs.Legal.{IsLegal}
use Rattle.cert_text.specs.Parts.{LemmaOf}
use Rattle.cert_text.specs.Trees.{Plain}
use Rattle.bandwidth_bound.specs.Goals.{lemma_goal}
use Rattle.bandwidth_bound.specs.Trees.{TreeStands}

-- the value of the lemma of a sender, in eighths of ticks a common period; 0 where there is none
abbrev pub value_of : List (LemmaOf Plain) → ℕ → ℕ
value_of [] sender = 0
value_of (lemma ∷ lemmas) sender = if lemma.sender == sender then lemma.value else value_of lemmas sender

-- the values of lemmas by sender
abbrev pub values_of : Parts → List (LemmaOf Plain) → List ℕ
values_of problem lemmas = map (value_of lemmas) (range_with_len 0 (length problem.senders))

-- the sender of a lemma is there, and its tree stands at the empty grouping of the sender's items
abbrev pub LemmaStands : Parts → LemmaOf Plain → Type 0
LemmaStands problem lemma =
    (lemma.sender < length problem.senders)
    × TreeStands (lemma_goal problem lemma.sender lemma.value) [] lemma.tree

-- lemmas are by strictly ascending sender, and each stands
pub record LemmasStand (problem : Parts) (lemmas : List (LemmaOf Plain)) : Type 0 where
  pub ascending : IsStrictlyIncreasing (map (λ lemma. lemma.sender) lemmas)
  pub each : All (LemmaStands problem) lemmas

-- the value of each sender is at most 8 times the load of every legal grouping of its items alone
abbrev pub LemmasHold : Parts → List ℕ → Type 0
LemmasHold problem values = (sender : ℕ) → sender < length problem.senders
    → (q : List ℕ) → IsLegal (sent_by problem.items sender) q
    → slice_index_or values sender 0 ≤ 8 * load_of problem (sent_by problem.items sender) q

-- the values of lemmas that stand are such
abbrev pub StandingLemmasHold : Type 0
StandingLemmasHold = (problem : Parts) → IsProblem problem → (lemmas : List (LemmaOf Plain))
    → LemmasStand problem lemmas → LemmasHold problem (values_of problem lemmas)
