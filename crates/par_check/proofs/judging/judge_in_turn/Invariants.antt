use Rattle.std.proofs.Common.{Ok, take}
use Rattle.cert_check.specs.Subtree.{IsJudge}
use Rattle.par_check.specs.Shards.{AreFound}
use Rattle.par_check.proofs.judging.judge_in_turn.Given as goal

-- what was found of the first shards
abbrev pub invariant-loop-shard : goal.invariant-loop-shard
invariant-loop-shard g l = record {
  judge : IsJudge l.problem l.goal.lemmas l.judge;
  found : AreFound l.problem l.goal (take l.shard-index l.shards) (Ok l.least);
}
