-- The answer about shards is one.
use Rattle.std.proofs.Common.{◌≡◌, List, Result, Ok, Err, All, refl, sym, ap, ◌∙◌}
use Rattle.pack_model.specs.Problem.{Parts}
use Rattle.cert_check.specs.declared.fault.CheckFault.{CheckFault}
use Rattle.cert_check.specs.declared.fault.CheckFault.TheVariants as fault
use Rattle.par_check.specs.Laws.{AnswerIsOne}
use Rattle.par_check.specs.Shards.{AreJudged, ShardStands}
use Rattle.par_check.specs.declared.shard.Goal.{Goal}
use Rattle.par_check.specs.declared.shard.Joined.{Joined}
use Rattle.par_check.specs.declared.shard.Shard.{Shard}

-- an answer that is a fault
abbrev failed : CheckFault → Result Joined CheckFault
failed why = Err why

module _ (problem : Parts) (goal : Goal) (shards : List Shard) where
  -- a fault other than want of memory is that some shard doesn't stand
  fault_is : (why : CheckFault) → AreJudged problem goal shards (Err why)
      → ¬ (failed why ≡ Err fault.Memory)
      → (why ≡ fault.RejectedTree) × ¬ All (ShardStands problem goal) shards
  fault_is fault.RejectedMatrix found known = absurd found
  fault_is fault.RejectedTiming found known = absurd found
  fault_is fault.RejectedTree found known = (refl, found)
  fault_is fault.Memory found known = absurd (known refl)

  one : (a b : Result Joined CheckFault) → AreJudged problem goal shards a → AreJudged problem goal shards b
      → ¬ (a ≡ Err fault.Memory) → ¬ (b ≡ Err fault.Memory) → a ≡ b
  one (Ok a) (Ok b) first second known also_known =
      ap Ok (λ i. record { lower = (first.1 ∙ sym second.1) i })
  one (Ok a) (Err why) first second known also_known = absurd ((fault_is why second also_known).1 first.0)
  one (Err why) (Ok b) first second known also_known = absurd ((fault_is why first known).1 second.0)
  one (Err a) (Err b) first second known also_known =
      ap Err ((fault_is a first known).0 ∙ sym (fault_is b second also_known).0)

pub answer_is_one : AnswerIsOne
answer_is_one problem goal shards a b first second known also_known =
    one problem goal shards a b first second known also_known
