-- A task: a search over all items of a problem that stops between turns. Read this first.
use Rattle.std.specs.Prelude.{ℕ, ◌≡◌, true, length, nat_lt, Option, None, Some, IfSome, cond}
use Rattle.pack_model.specs.Problem.{Parts}
use Rattle.cert_text.specs.PlainTree.{plain_of}
use Rattle.grouping_tree.specs.Partial.{IsPartial}
use Rattle.bandwidth_bound.specs.Goals.{main_goal}
use Rattle.bandwidth_bound.specs.Trees.{TreeStands}
use Rattle.tree_search.specs.Flat.{flat}
use Rattle.tree_search.specs.Open.{has_open}
use Rattle.tree_search.specs.Step.{Searched}
use Rattle.tree_search.specs.Walks.{EndsOpen}
use Rattle.search_judge.specs.Findings.{FoundStands}
use Rattle.search_task.specs.declared.task.Task.{Task}

-- a task belongs to a problem: its path is a partial grouping of all items, it has one lemma for each
-- sender, its tree stands at the path with its best load and lemmas, in preorder the nodes that are done
-- come first, and what it found is a legal grouping of all items with an order that passes and its load
pub record IsTask (problem : Parts) (task : Task) : Type 0 where
  pub path_stands : IsPartial problem.items task.path.items
  pub one_each : length task.lemmas.items ≡ length problem.senders
  pub stands : TreeStands (main_goal problem task.lemmas.items task.best true) task.path.items
      (plain_of task.tree)
  pub nodes : EndsOpen (flat (plain_of task.tree))
  pub is_open : has_open (plain_of task.tree) ≡ task.open
  pub found_stands : IfSome task.found (FoundStands problem)

-- the search that a task is at: its tree, its best load and what it found
abbrev pub search_of : Task → Searched
search_of task = record { tree = plain_of task.tree; best = task.best; found = task.found }

-- the lesser of two loads that may not be there
abbrev pub lesser : Option ℕ → Option ℕ → Option ℕ
lesser None other = other
lesser (Some load) None = Some load
lesser (Some load) (Some less) = cond (nat_lt less load) (Some less) (Some load)

-- the search that a task goes on with once it took a best load for its own, where that is less
abbrev pub taken_over : Task → Option ℕ → Searched
taken_over task best =
    record { tree = plain_of task.tree; best = lesser task.best best; found = task.found }
