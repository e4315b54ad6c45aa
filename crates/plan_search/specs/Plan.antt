-- What is planned with a budget of branches: read this first.
use Rattle.std.specs.Prelude.{ℕ, ◌≡◌, ◌*◌, ◌<◌, ⊤, true, false, List, [], All, Option, Some, None}
use Rattle.std.specs.Option.{option_map}
use Rattle.pack_model.specs.Problem.{Parts}
use Rattle.class_frame.specs.Classes.{load_of}
use Rattle.matrix_rows.specs.declared.matrix.MatrixRow.{MatrixRow}
use Rattle.matrix_text.specs.Frames.{grouping_of}
use Rattle.matrix_text.specs.LaidOut.{rows_of}
use Rattle.cert_text.specs.declared.parts.FrameLine.{FrameLine}
use Rattle.cert_text.specs.declared.parts.Kind.TheVariants.{KindBetween, KindBest, KindNoSolution}
use Rattle.cert_text.specs.Parts.{CertParts, LemmaOf}
use Rattle.cert_text.specs.Trees.{Plain}
use Rattle.bandwidth_bound.specs.declared.verdict.Verdict.{Verdict}
use Rattle.bandwidth_bound.specs.declared.verdict.Verdict.TheVariants as verdict
use Rattle.bandwidth_bound.specs.Lemmas.{values_of}
use Rattle.bandwidth_bound.specs.Rule.{Judged, best_of, lower_of}
use Rattle.search_judge.specs.Findings.{frames_at}
use Rattle.tree_search.specs.declared.finding.Found.{Found}
use Rattle.tree_search.specs.Open.{has_open}
use Rattle.tree_search.specs.Step.{Searched}
use Rattle.plan_search.specs.declared.planned.Planned.{Planned}
use Rattle.plan_search.specs.declared.planned.Planned.TheVariants as planned
use Rattle.plan_search.specs.Begin.{Begins}
use Rattle.plan_search.specs.Lines.{AreLeastLines}
use Rattle.plan_search.specs.Searches.{IsSearch, IsTrimmedIn, LemmaIsTrimmed, branches_of, nodes_of_cert, trimmed}

-- ---- the answer

-- the matrix is that of a grouping in its order, and the lines have the least numbers that show that each
-- frame passes
pub record IsShownBy (problem : Parts) (found : Found) (rows : List MatrixRow)
    (lines : List FrameLine) : Type 0 where
  pub matrix : rows ≡ rows_of problem found.labels found.order
  pub lines_are : AreLeastLines (frames_at problem found.labels) found.order
      problem.network.nominal_ticks lines

-- the certificate of the kind `best` with these lines and lemmas: the main tree is trimmed
abbrev pub best_cert : Parts → List FrameLine → List (LemmaOf Plain) → ℕ → Plain → CertParts
best_cert problem lines lemmas load tree = record {
  kind = KindBest;
  frames = lines;
  lemmas = lemmas;
  main_tree = Some (trimmed problem None (values_of problem lemmas) (8 * load) tree);
}

-- the certificate of the kind `none` with this tree, without lemmas
abbrev pub none_cert : Plain → CertParts
none_cert tree = record { kind = KindNoSolution; frames = []; lemmas = []; main_tree = Some tree }

-- the certificate of the kind `open` with these lines, lemmas and tree
abbrev pub open_cert : List FrameLine → List (LemmaOf Plain) → Plain → CertParts
open_cert lines lemmas tree =
    record { kind = KindBetween; frames = lines; lemmas = lemmas; main_tree = Some tree }

-- a plan ends with this answer from its lemmas, the best grouping, if there is one, and the main tree:
-- without open leaves it is the best grouping, or there is no solution; else the branches are spent
abbrev pub Ends : Parts → List (LemmaOf Plain) → Option Found → Plain → Planned → Type 0
Ends problem lemmas best tree (planned.Best rows cert) =
    (has_open tree ≡ false) × ((found : Found) × (best ≡ Some found)
    × IsShownBy problem found rows cert.frames
    × (cert ≡ best_cert problem cert.frames lemmas found.load tree))
Ends problem lemmas best tree (planned.NoSolution cert) =
    (has_open tree ≡ false) × (best ≡ None) × (cert ≡ none_cert tree)
Ends problem lemmas best tree (planned.Spent None cert) =
    (has_open tree ≡ true) × (best ≡ None) × (cert ≡ open_cert [] lemmas tree)
Ends problem lemmas best tree (planned.Spent (Some rows) cert) =
    (has_open tree ≡ true) × ((found : Found) × (best ≡ Some found)
    × IsShownBy problem found rows cert.frames
    × (cert ≡ open_cert cert.frames lemmas tree))

-- the load of a grouping that may not be there
abbrev pub load_found : Option Found → Option ℕ
load_found found = option_map (λ one. one.load) found

-- the grouping that a search found last, or else the one that it began with
abbrev pub last_found : Option Found → Option Found → Option Found
last_found (Some found) first = Some found
last_found None first = first

-- this is planned within so many branches: from its lemmas and its first best the search over all items goes
-- on with the branches that are left
pub record IsPlanOf (problem : Parts) (branches : ℕ) (plan : Planned) : Type 0 where
  pub lemmas : List (LemmaOf Plain)
  pub left : ℕ
  pub first : Option Found
  pub begins : Begins problem branches lemmas left first
  pub end : Searched
  pub search : IsSearch problem None (values_of problem lemmas) (load_found first) left end
  pub ends : Ends problem lemmas (last_found end.found first) end.tree plan

-- ---- what it shows

-- the matrix that is planned; without one it has no rows
abbrev pub matrix_of_plan : Planned → List MatrixRow
matrix_of_plan (planned.Best rows cert) = rows
matrix_of_plan (planned.NoSolution cert) = []
matrix_of_plan (planned.Spent None cert) = []
matrix_of_plan (planned.Spent (Some rows) cert) = rows

-- the certificate
abbrev pub cert_of_plan : Planned → CertParts
cert_of_plan (planned.Best rows cert) = cert
cert_of_plan (planned.NoSolution cert) = cert
cert_of_plan (planned.Spent rows cert) = cert

-- the verdict
abbrev pub verdict_of_plan : Parts → Planned → Verdict
verdict_of_plan problem (planned.Best rows cert) =
    verdict.Best (load_of problem problem.items (grouping_of problem rows))
verdict_of_plan problem (planned.NoSolution cert) = verdict.NoSolution
verdict_of_plan problem (planned.Spent rows cert) =
    verdict.Between (best_of problem (matrix_of_plan (planned.Spent rows cert)))
    (lower_of problem (values_of problem cert.lemmas)
    (best_of problem (matrix_of_plan (planned.Spent rows cert))) cert.main_tree)

-- what is planned, to be judged
abbrev pub judged_plan : Parts → Planned → Judged
judged_plan problem plan =
    record { problem = problem; matrix = matrix_of_plan plan; cert = cert_of_plan plan }

-- ---- what is promised of it

-- no inner node of the main tree has a bound that reaches 8 times a load
abbrev pub MainIsTrimmed : Parts → List ℕ → ℕ → Option Plain → Type 0
MainIsTrimmed problem values load None = ⊥
MainIsTrimmed problem values load (Some tree) = IsTrimmedIn problem None values (8 * load) tree

-- the trees that are written where the answer is final are trimmed: of `best` the lemmas' and the main one,
-- and `none` has no lemmas
abbrev pub IsTrimmedPlan : Parts → Planned → Type 0
IsTrimmedPlan problem (planned.Best rows cert) =
    All (LemmaIsTrimmed problem) cert.lemmas
    × MainIsTrimmed problem (values_of problem cert.lemmas)
    (load_of problem problem.items (grouping_of problem rows)) cert.main_tree
IsTrimmedPlan problem (planned.NoSolution cert) = cert.lemmas ≡ []
IsTrimmedPlan problem (planned.Spent rows cert) = ⊤

-- where the branches are spent the trees have exactly so many nodes besides open leaves, and there are fewer
-- than the count of branches
abbrev pub IsWithin : Parts → ℕ → Planned → Type 0
IsWithin problem branches (planned.Best rows cert) = ⊤
IsWithin problem branches (planned.NoSolution cert) = ⊤
IsWithin problem branches (planned.Spent rows cert) =
    (nodes_of_cert cert ≡ branches) × (branches < branches_of problem)
