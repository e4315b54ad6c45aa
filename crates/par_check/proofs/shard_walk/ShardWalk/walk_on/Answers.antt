use Rattle.cert_text.specs.declared.event.Event.TheVariants as event
use Rattle.par_check.proofs.ShardSteps.{event_more, mark_more}
use Rattle.par_check.proofs.shard_walk.ShardWalk.walk_on.Goals as goal

pub take-requires : goal.take-requires
take-requires g c = let t = c.requires.taken in (t.0, t.2.entries, t.2.taken)

pub returns-in-ShardMark : goal.returns-in-ShardMark
returns-in-ShardMark g c = λ rows events s begins.
    mark_more c.args.problem.now rows c.args.self.now events s c.requires.none c.take.new.self c.args.event.now
    (c.take.ensures.taken rows s.entries s.taken) c.begin_shard.new.self c.in-ShardMark.is c.begin_shard.ensures

pub returns-in-Main : goal.returns-in-Main
returns-in-Main g c = λ rows events s begins.
    event_more c.args.problem.now rows c.args.self.now events s c.requires.none c.take.new.self c.args.event.now
    (c.take.ensures.taken rows s.entries s.taken)

pub returns-in_default : goal.returns-in_default
returns-in_default g c = λ rows events s begins.
    event_more c.args.problem.now rows c.args.self.now events s c.requires.none c.take.new.self c.args.event.now
    (c.take.ensures.taken rows s.entries s.taken)
