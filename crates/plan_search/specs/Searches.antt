-- Searches with a budget of steps, and the count of branches: the project's own.
use Rattle.std.specs.Prelude.{ℕ, ◌≡◌, ◌+◌, ◌≤◌, ◌<◌, false, List, [], length, sum_by, Option, Some, None}
use Rattle.std.specs.List.{range_with_len}
use Rattle.pack_model.specs.Problem.{Parts, sent_by}
use Rattle.grouping_tree.specs.Grouped.{items_in}
use Rattle.cert_text.specs.Parts.{CertParts, LemmaOf}
use Rattle.cert_text.specs.Trees.{Plain, left}
use Rattle.bandwidth_bound.specs.Prices.{lower8_of}
use Rattle.search_judge.specs.Findings.{Finds}
use Rattle.tree_search.specs.Count.{place_count}
use Rattle.tree_search.specs.Open.{has_open, nodes_of}
use Rattle.tree_search.specs.Step.{Searched, Steps}
use Rattle.tree_search.specs.Trim.{IsTrimmed, reaches, trim}

-- a search that has an open leaf at the empty grouping and has found nothing, with a best load, if there is
-- one
abbrev pub begun_with : Option ℕ → Searched
begun_with best = record { tree = left; best = best; found = None }

-- the search over the groupings of all items, or of one sender's, by bounds with the values of lemmas:
-- within a budget of steps, and fewer only where no leaf is open then
pub record IsSearch (problem : Parts) (range : Option ℕ) (values : List ℕ) (best : Option ℕ) (budget : ℕ)
    (end : Searched) : Type 0 where
  pub made : ℕ
  pub steps : Steps (Finds problem range values) (items_in problem.items range) [] made (begun_with best) end
  pub within : made ≤ budget
  pub fewer : made < budget → has_open end.tree ≡ false

-- the tree over the groupings of a range, trimmed where the bound reaches a value
abbrev pub trimmed : Parts → Option ℕ → List ℕ → ℕ → Plain → Plain
trimmed problem range values value tree =
    trim (items_in problem.items range) (reaches (lower8_of problem values (items_in problem.items range))
    value)
    [] tree

-- no inner node of a tree over the groupings of a range has a bound that reaches a value
abbrev pub IsTrimmedIn : Parts → Option ℕ → List ℕ → ℕ → Plain → Type 0
IsTrimmedIn problem range values value tree =
    IsTrimmed (items_in problem.items range)
    (reaches (lower8_of problem values (items_in problem.items range)) value) [] tree

-- the nodes besides open leaves of the trees of lemmas
abbrev pub nodes_of_lemmas : List (LemmaOf Plain) → ℕ
nodes_of_lemmas lemmas = sum_by (λ lemma. nodes_of lemma.tree) lemmas

-- and of the main tree, if there is one
abbrev pub nodes_of_main : Option Plain → ℕ
nodes_of_main None = 0
nodes_of_main (Some tree) = nodes_of tree

-- the nodes of the trees of a certificate besides open leaves
abbrev pub nodes_of_cert : CertParts → ℕ
nodes_of_cert cert = nodes_of_main cert.main_tree + nodes_of_lemmas cert.lemmas

-- how many partial groupings there are of a sender's items
abbrev pub places_of : Parts → ℕ → ℕ
places_of problem sender =
    place_count (sent_by problem.items sender) (length (sent_by problem.items sender)) []

-- and of the items of the first senders, of each one's alone
abbrev pub places_of_first : Parts → ℕ → ℕ
places_of_first problem senders = sum_by (places_of problem) (range_with_len 0 senders)

-- the count of branches: how many partial groupings there are of all items, and of each sender's alone
abbrev pub branches_of : Parts → ℕ
branches_of problem =
    place_count problem.items (length problem.items) [] + places_of_first problem (length problem.senders)

-- no inner node of the tree of a lemma has a bound that reaches its value
abbrev pub LemmaIsTrimmed : Parts → LemmaOf Plain → Type 0
LemmaIsTrimmed problem lemma = IsTrimmedIn problem (Some lemma.sender) [] lemma.value lemma.tree
