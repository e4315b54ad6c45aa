use Rattle.std.proofs.Common.{Err, Ok}
use Rattle.cert_text.specs.PlainTree.{plain_of}
use Rattle.par_check.proofs.ShardLaws.{fails_at, stand_more, told_at}
use Rattle.par_check.proofs.judging.judge_in_turn.Goals as goal

pub returns-in-Err : goal.returns-in-Err
returns-in-Err g c =
    fails_at c.args.problem.now c.args.goal.now c.args.shards.now c.loop-shard.shard-index c.shard-item.result
    c.loop-shard-test.true c.shard-item.is c.in-Err.fault
    (told_at c.args.problem.now c.args.goal.now c.shard-item.result.lemma c.aim_of-aim.result
    c.as_slice-in-loop-shard.result.now c.shard-item.result.path (plain_of c.shard-item.result.tree)
    (Err c.in-Err.fault) c.aim_of-aim.ensures c.as_slice-in-loop-shard.ensures
    (c.in-Err.ensures.found c.args.goal.now.lemmas c.loop-shard.invariant.judge))

pub loop-shard-preserved : goal.loop-shard-preserved
loop-shard-preserved g c = record {
  judge = c.judge.ensures.judge c.args.goal.now.lemmas c.loop-shard.invariant.judge;
  found =
      stand_more c.args.problem.now c.args.goal.now c.args.shards.now c.loop-shard.shard-index c.shard-item.result
      c.loop-shard-test.true c.shard-item.is c.loop-shard.least c.lesser-least.result c.in-Ok.found
      c.loop-shard.invariant.found
      (told_at c.args.problem.now c.args.goal.now c.shard-item.result.lemma c.aim_of-aim.result
      c.as_slice-in-loop-shard.result.now c.shard-item.result.path (plain_of c.shard-item.result.tree)
      (Ok c.in-Ok.found) c.aim_of-aim.ensures c.as_slice-in-loop-shard.ensures
      (c.in-Ok.ensures.found c.args.goal.now.lemmas c.loop-shard.invariant.judge))
      c.lesser-least.ensures;
}
