use Rattle.std.proofs.Common.{[], ◌∷◌, ◌++◌}
use Rattle.par_check.specs.ShardWalks.{StaysTaken, TakesOn}
use Rattle.par_check.proofs.ShardSteps.{where_ok}
use Rattle.par_check.proofs.shard_walk.ShardWalk.go_on.Goals as goal

pub judge-requires-clause-taken : goal.judge-requires-clause-taken
judge-requires-clause-taken g c = λ lifetimes outlive.
    let t = c.requires.taken in
    (t.0, t.1 ++ c.args.event ∷ [], c.in_ok-take.ensures t.0 t.1 t.2 t.3, t.3)

pub returns : goal.returns
returns g c =
    where_ok {A = StaysTaken c.args.problem.now c.take.new.self c.judge.new.self}
    {B = TakesOn c.args.problem.now c.args.self.now c.judge.new.self (c.args.event ∷ [])} c.judge.result
    (λ stays rows events s begins.
    stays rows (events ++ c.args.event ∷ []) (c.in_ok-take.ensures rows events s begins) begins)
    c.judge.ensures.stays
