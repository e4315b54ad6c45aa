-- The plan of a final tree.
use Rattle.std.specs.Prelude.{ℕ, ◌≡◌, ◌*◌, Bool, true, false, List, [], map, min, Option, None, Some, IfSome}
use Rattle.std.specs.Option.{unwrap_or}
use Rattle.pack_model.specs.Problem.{Parts}
use Rattle.matrix_rows.specs.declared.matrix.MatrixRow.{MatrixRow}
use Rattle.cert_text.specs.declared.parts.FrameLine.{FrameLine}
use Rattle.cert_text.specs.declared.parts.Kind.TheVariants.{KindBest}
use Rattle.cert_text.specs.Parts.{LemmaOf}
use Rattle.cert_text.specs.PlainTree.{plain_of}
use Rattle.cert_text.specs.Trees.{Plain}
use Rattle.bandwidth_bound.specs.declared.verdict.Verdict.{Verdict}
use Rattle.bandwidth_bound.specs.declared.verdict.Verdict.TheVariants as verdict
use Rattle.bandwidth_bound.specs.Goals.{main_goal}
use Rattle.bandwidth_bound.specs.Prices.{lower8_of}
use Rattle.bandwidth_bound.specs.Trees.{TreeStands, open_places}
use Rattle.tree_search.specs.declared.finding.Found.{Found}
use Rattle.tree_search.specs.declared.node.Node.{Node}
use Rattle.tree_search.specs.declared.node.Node.TheVariants.{Inner, Bound, Left, Fail}
use Rattle.tree_search.specs.Open.{has_open, least_of, nodes_of}
use Rattle.tree_search.specs.Step.{Searched}
use Rattle.search_judge.specs.Findings.{FoundStands}
use Rattle.plan_search.specs.declared.planned.Planned.{Planned}
use Rattle.plan_search.specs.declared.planned.Planned.TheVariants as planned
use Rattle.plan_search.specs.declared.searching.Ended.{Ended}
use Rattle.plan_search.specs.Plan.{last_found, load_found, none_cert, open_cert}
use Rattle.plan_search.specs.Searches.{IsSearch, trimmed}

-- the tree that is written: trimmed, where no leaf is open and there is a best load
abbrev pub final_tree : Parts → List ℕ → Option ℕ → Bool → Plain → Plain
final_tree problem values None is_open tree = tree
final_tree problem values (Some load) true tree = tree
final_tree problem values (Some load) false tree = trimmed problem None values (8 * load) tree

-- the plan of a matrix, its lines, lemmas and a final tree, by whether a leaf is open
abbrev pub plan_with : List MatrixRow → List FrameLine → List (LemmaOf Plain) → Plain → Bool → Planned
plan_with rows lines lemmas tree true = planned.Spent (Some rows) (open_cert lines lemmas tree)
plan_with rows lines lemmas tree false =
    planned.Best rows (record { kind = KindBest; frames = lines; lemmas = lemmas; main_tree = Some tree })

-- the plan without a matrix
abbrev pub plan_without : List (LemmaOf Plain) → Plain → Bool → Planned
plan_without lemmas tree true = planned.Spent None (open_cert [] lemmas tree)
plan_without lemmas tree false = planned.NoSolution (none_cert tree)

-- what a search over all items from a first best ends with: the best grouping, whether a leaf is open, and
-- the final tree
pub record IsEnded (problem : Parts) (values : List ℕ) (first : Option Found) (left : ℕ)
    (ended : Ended) : Type 0 where
  pub end : Searched
  pub search : IsSearch problem None values (load_found first) left end
  pub best_is : ended.best ≡ last_found end.found first
  pub found : IfSome ended.best (FoundStands problem)
  pub stands : TreeStands (main_goal problem values (load_found ended.best) true) [] end.tree
  pub is_open : has_open end.tree ≡ ended.is_open
  pub tree : plain_of ended.tree ≡ final_tree problem values (load_found ended.best) ended.is_open end.tree
  pub nodes : nodes_of end.tree ≡ search.made
  pub least : ended.least
      ≡ least_of (map (lower8_of problem values problem.items) (open_places problem.items [] end.tree))

-- the lower bound that is shown where branches are spent, from the best load and the least bound at the open
-- leaves, in eighths of ticks a common period
abbrev pub lower_with : Option ℕ → ℕ → ℕ
lower_with None least = least
lower_with (Some load) least = min least (8 * load)

-- the verdict of a plan, from the best load, whether a leaf is open, and the least bound at the open leaves
abbrev pub verdict_with : Option ℕ → Bool → Option ℕ → Verdict
verdict_with best true least = verdict.Between best (lower_with best (unwrap_or least 0))
verdict_with None false least = verdict.NoSolution
verdict_with (Some load) false least = verdict.Best load

-- the node is an open leaf
abbrev pub is_left : Node → Bool
is_left (Inner n) = false
is_left Bound = false
is_left Left = true
is_left (Fail named) = false
