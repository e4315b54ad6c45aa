-- The answer is one, whoever judges: the project's own.
use Rattle.std.specs.Prelude.{◌≡◌, List, Result, Err}
use Rattle.pack_model.specs.Problem.{Parts}
use Rattle.cert_check.specs.declared.fault.CheckFault.{CheckFault}
use Rattle.cert_check.specs.declared.fault.CheckFault.TheVariants as fault
use Rattle.par_check.specs.declared.shard.Goal.{Goal}
use Rattle.par_check.specs.declared.shard.Joined.{Joined}
use Rattle.par_check.specs.declared.shard.Shard.{Shard}
use Rattle.par_check.specs.Shards.{AreJudged}

-- two answers about the same shards are equal, want of memory aside
abbrev pub AnswerIsOne : Type 0
AnswerIsOne = (problem : Parts) (goal : Goal) (shards : List Shard) (a b : Result Joined CheckFault)
    → AreJudged problem goal shards a → AreJudged problem goal shards b
    → ¬ (a ≡ Err fault.Memory) → ¬ (b ≡ Err fault.Memory) → a ≡ b
