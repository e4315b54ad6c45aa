use Rattle.std.proofs.Common.{Err, Ok, refl}
use Rattle.par_check.proofs.ShardSteps.{denied_so, refused, shown}
use Rattle.par_check.proofs.shard_walk.ShardWalk.verdict.Goals as goal

pub verdict_joined-requires : goal.verdict_joined-requires
verdict_joined-requires c = let t = c.requires.taken in (t.0, t.2.entries, t.2.taken)

pub returns-then-self : goal.returns-then-self
returns-then-self c = record {
  found = λ rows marked parts s.
      denied_so c.args.problem.now rows c.args.self.now marked s c.requires.judged (Ok c.in-Ok.shown)
      (c.in-Ok.ensures.told rows s.entries s.taken) parts c.if-self.true;
}

pub returns-else-self : goal.returns-else-self
returns-else-self c = record {
  found = λ rows marked parts s.
      shown c.args.problem.now rows c.args.self.now marked s c.requires.judged (Ok c.in-Ok.shown)
      (c.in-Ok.ensures.told rows s.entries s.taken) parts c.if-self.false;
}

pub returns-in-Err : goal.returns-in-Err
returns-in-Err c = record {
  found = λ rows marked parts s.
      refused c.args.problem.now rows c.args.self.now marked s c.requires.judged (Err c.in-Err.fault)
      (c.in-Err.ensures.told rows s.entries s.taken) parts c.in-Err.fault refl;
}
