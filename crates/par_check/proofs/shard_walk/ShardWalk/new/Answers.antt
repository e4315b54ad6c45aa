use Rattle.std.proofs.Common.{refl}
use Rattle.par_check.proofs.ShardSteps.{none_taken}
use Rattle.par_check.proofs.shard_walk.ShardWalk.new.Goals as goal

pub returns : goal.returns
returns c =
    none_taken c.args.problem.now c.args.matrix.now _ c.in_ok-new.ensures refl c.new-2.ensures.items refl refl
