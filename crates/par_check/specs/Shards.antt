-- When marked subtrees of a certificate stand, each at its own place, and what they show together: the
-- project's own.
use Rattle.std.specs.Prelude.{◌≡◌, ◌<◌, ⊤, ℕ, min, All, List, [], ◌∷◌, length, map, slice_index_or, Option, None, Some, Result, Ok, Err, IfSome}
use Rattle.std.specs.List.{flat_map}
use Rattle.pack_model.specs.Problem.{Parts}
use Rattle.grouping_tree.specs.Grouped.{items_in}
use Rattle.grouping_tree.specs.Partial.{IsPartial}
use Rattle.cert_text.specs.PlainTree.{plain_of}
use Rattle.bandwidth_bound.specs.Goals.{lemma_goal, main_goal}
use Rattle.bandwidth_bound.specs.Prices.{lower8_of}
use Rattle.bandwidth_bound.specs.Trees.{TreeStands, open_places}
use Rattle.bandwidth_bound.specs.Trees.{Goal as ToShow}
use Rattle.cert_check.specs.Nodes.{lowered}
use Rattle.cert_check.specs.Said.{may_leave_of}
use Rattle.cert_check.specs.Trees.{HasRoom}
use Rattle.cert_check.specs.declared.fault.CheckFault.{CheckFault}
use Rattle.cert_check.specs.declared.fault.CheckFault.TheVariants as fault
use Rattle.par_check.specs.declared.shard.Goal.{Goal}
use Rattle.par_check.specs.declared.shard.Joined.{Joined}
use Rattle.par_check.specs.declared.shard.Shard.{Shard}

-- there is one value for each sender, and 8 times the best fits 128 bits
pub record IsGoal (problem : Parts) (goal : Goal) : Type 0 where
  pub values : length goal.lemmas ≡ length problem.senders
  pub room : HasRoom goal.best

-- the sender of a shard's lemma is there, and its path is a partial grouping of the items of its tree
pub record IsShard (problem : Parts) (shard : Shard) : Type 0 where
  pub sender : IfSome shard.lemma (λ sender. sender < length problem.senders)
  pub path : IsPartial (items_in problem.items shard.lemma) shard.path

-- what a subtree of the main tree is to show, or one of the tree of a sender's lemma
abbrev pub goal_at : Parts → Goal → Option ℕ → ToShow
goal_at problem goal None = main_goal problem goal.lemmas goal.best (may_leave_of goal.kind)
goal_at problem goal (Some sender) = lemma_goal problem sender (slice_index_or goal.lemmas sender 0)

-- a shard's tree stands at its path
abbrev pub ShardStands : Parts → Goal → Shard → Type 0
ShardStands problem goal shard = TreeStands (goal_at problem goal shard.lemma) shard.path (plain_of shard.tree)

-- the lower bounds at the open leaves of a subtree of the main tree
abbrev pub bounds_left : Parts → Goal → Option ℕ → List (List ℕ) → List ℕ
bounds_left problem goal None places = map (lower8_of problem goal.lemmas problem.items) places
bounds_left problem goal (Some sender) places = []

-- those at a shard's
abbrev pub bounds_of_shard : Parts → Goal → Shard → List ℕ
bounds_of_shard problem goal shard =
    bounds_left problem goal shard.lemma (open_places problem.items shard.path (plain_of shard.tree))

-- the least of those at the open leaves of shards, if there are any
abbrev pub least_left : Parts → Goal → List Shard → Option ℕ
least_left problem goal shards = lowered None (flat_map (bounds_of_shard problem goal) shards)

-- the answer is that least bound where each shard stands, want of memory aside
abbrev pub AreFound : Parts → Goal → List Shard → Result (Option ℕ) CheckFault → Type 0
AreFound problem goal shards (Ok least) =
    All (ShardStands problem goal) shards × (least ≡ least_left problem goal shards)
AreFound problem goal shards (Err fault.RejectedMatrix) = ⊥
AreFound problem goal shards (Err fault.RejectedTiming) = ⊥
AreFound problem goal shards (Err fault.RejectedTree) = ¬ All (ShardStands problem goal) shards
AreFound problem goal shards (Err fault.Memory) = ⊤

-- so is that of the check
abbrev pub AreJudged : Parts → Goal → List Shard → Result Joined CheckFault → Type 0
AreJudged problem goal shards (Ok joined) = AreFound problem goal shards (Ok joined.lower)
AreJudged problem goal shards (Err why) = AreFound problem goal shards (Err why)

-- the lesser of two numbers that may not be there
abbrev pub lesser : Option ℕ → Option ℕ → Option ℕ
lesser None other = other
lesser (Some n) None = Some n
lesser (Some n) (Some m) = Some (min n m)

-- the first fault of some answers, else the least of what they found and of what was the least before
abbrev pub joined_from : Option ℕ → List (Result (Option ℕ) CheckFault) → Result (Option ℕ) CheckFault
joined_from least [] = Ok least
joined_from least (Ok found ∷ answers) = joined_from (lesser least found) answers
joined_from least (Err why ∷ answers) = Err why
