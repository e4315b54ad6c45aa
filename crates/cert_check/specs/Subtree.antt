-- What is found of a tree at a partial grouping.
use Rattle.std.specs.Prelude.{◌≡◌, ℕ, List, map, Option, None, Result, Ok, Err}
use Rattle.pack_model.specs.Problem.{Parts}
use Rattle.cert_text.specs.Trees.{Plain}
use Rattle.bandwidth_bound.specs.Trees.{Goal, TreeStands, open_places}
use Rattle.cert_check.specs.declared.fault.CheckFault.{CheckFault}
use Rattle.cert_check.specs.declared.fault.CheckFault.TheVariants as fault
use Rattle.cert_check.specs.declared.subtree.SubtreeJudge.{SubtreeJudge}
use Rattle.cert_check.specs.Nodes.{lowered}
use Rattle.cert_check.specs.Walk.{IsReady}

-- the answer is the least bound at the tree's open leaves, if it has any, where the tree stands
abbrev pub IsFoundAt : Goal → List ℕ → Plain → Result (Option ℕ) CheckFault → Type 0
IsFoundAt goal p tree (Ok least) =
    TreeStands goal p tree × (least ≡ lowered None (map goal.lower8 (open_places goal.items p tree)))
IsFoundAt goal p tree (Err fault.RejectedMatrix) = ⊥
IsFoundAt goal p tree (Err fault.RejectedTiming) = ⊥
IsFoundAt goal p tree (Err fault.RejectedTree) = ¬ TreeStands goal p tree
IsFoundAt goal p tree (Err fault.Memory) = ⊥

-- the judge has the memory for each tree of the problem, and the values of the lemmas of all senders
pub record IsJudge (problem : Parts) (values : List ℕ) (judge : SubtreeJudge) : Type 0 where
  pub ready : IsReady problem judge.walk
  pub values_are : judge.walk.values.items ≡ values
