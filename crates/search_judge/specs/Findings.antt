-- What is found at a place of a search over the groupings of a problem's items, all of them or one sender's.
use Rattle.std.specs.Prelude.{ℕ, ◌≡◌, ◌≤◌, ◌<◌, ⊤, List, [], length, take, All, Option, None, Some}
use Rattle.pack_model.specs.Problem.{Parts}
use Rattle.busy_period.specs.declared.timed.Timed.{Timed}
use Rattle.response_test.specs.declared.evidence.Evidence.{Evidence}
use Rattle.response_test.specs.Order.{OrderPasses}
use Rattle.priority_assign.specs.Lowest.{IsLowestFirst}
use Rattle.class_frame.specs.Classes.{frames_of_classes, load_of}
use Rattle.class_frame.specs.Legal.{IsLegal}
use Rattle.grouping_tree.specs.Grouped.{items_in}
use Rattle.bandwidth_bound.specs.Bounds.{Reaches}
use Rattle.bandwidth_bound.specs.Failing.{numbers_of}
use Rattle.bandwidth_bound.specs.Goals.{eighths}
use Rattle.bandwidth_bound.specs.Prices.{lower8_of}
use Rattle.tree_search.specs.declared.finding.Finding.{Finding}
use Rattle.tree_search.specs.declared.finding.Finding.TheVariants.{Bounded, Failed, Complete, Parted}
use Rattle.tree_search.specs.declared.finding.Found.{Found}
use Rattle.search_judge.specs.Stuck.{HasEvidence}

-- the frames that are named are those that lowest-priority-first assignment leaves without a place, ascending;
-- each has the one evidence that it doesn't pass below the other ones and above all remaining ones
pub record NamesStuck (frames : List Timed) (bit hyper : ℕ) (named : List (ℕ × Evidence)) : Type 0 where
  pub order : List ℕ
  pub lowest_first : IsLowestFirst frames bit (length named) order
  pub some : 1 ≤ length named
  pub are : numbers_of named ≡ take (length named) order
  pub evidence : All (HasEvidence frames bit hyper (numbers_of named)) named

-- the classes so far of all items as frames
abbrev pub frames_at : Parts → List ℕ → List Timed
frames_at problem p = frames_of_classes problem problem.items p

-- these classes can't all pass; of one sender's items alone this isn't asked
abbrev pub IsStuck : Parts → Option ℕ → List ℕ → List (ℕ × Evidence) → Type 0
IsStuck problem None p named =
    NamesStuck (frames_at problem p) problem.network.nominal_ticks problem.hyper named
IsStuck problem (Some sender) p named = ⊥

-- some order lets each class so far pass; of one sender's items alone this isn't asked
abbrev pub CanPass : Parts → Option ℕ → List ℕ → Type 0
CanPass problem None p =
    (order : List ℕ) × OrderPasses (frames_at problem p) problem.network.nominal_ticks order
CanPass problem (Some sender) p = ⊤

-- the order is that of lowest-priority-first assignment; of one sender's items alone there is none
abbrev pub HasOrder : Parts → Option ℕ → List ℕ → List ℕ → Type 0
HasOrder problem None p order =
    IsLowestFirst (frames_at problem p) problem.network.nominal_ticks 0 order
HasOrder problem (Some sender) p order = order ≡ []

-- the lower bound at a partial grouping reaches 8 times the best load, if there is one
abbrev pub ReachesBest : Parts → Option ℕ → List ℕ → Option ℕ → List ℕ → Type 0
ReachesBest problem range values best p =
    Reaches (eighths best) (lower8_of problem values (items_in problem.items range) p)

-- with a best load so far, if there is one, and with these values of lemmas, this is found at a partial grouping:
-- that the bound reaches the best; else that the classes so far can't all pass; else that each item has a label;
-- else that items are left
abbrev pub Finds : Parts → Option ℕ → List ℕ → Option ℕ → List ℕ → Finding → Type 0
Finds problem range values best p Bounded = ReachesBest problem range values best p
Finds problem range values best p (Failed named) =
    (¬ ReachesBest problem range values best p) × IsStuck problem range p named
Finds problem range values best p (Complete load order) =
    (¬ ReachesBest problem range values best p) × HasOrder problem range p order
    × (length p ≡ length (items_in problem.items range))
    × (load ≡ load_of problem (items_in problem.items range) p)
Finds problem range values best p Parted =
    (¬ ReachesBest problem range values best p) × CanPass problem range p
    × (length p < length (items_in problem.items range))

-- a legal grouping of all items with the order of lowest-priority-first assignment, in which each frame passes, and
-- its load
pub record FoundStands (problem : Parts) (found : Found) : Type 0 where
  pub legal : IsLegal problem.items found.labels
  pub lowest_first : IsLowestFirst (frames_at problem found.labels) problem.network.nominal_ticks 0 found.order
  pub passes : OrderPasses (frames_at problem found.labels) problem.network.nominal_ticks found.order
  pub load_is : found.load ≡ load_of problem problem.items found.labels
