use Rattle.std.proofs.Common.{◌∙◌, refl}
use Rattle.cert_check.specs.Taken.{HasStored}
use Rattle.par_check.specs.Gathered.{bare_of}
use Rattle.par_check.proofs.ShardSteps.{keep_more, shard_legal}
use Rattle.par_check.proofs.shard_walk.ShardWalk.keep.Goals as goal

pub path-requires-clause-stored : goal.path-requires-clause-stored
path-requires-clause-stored c =
    let t = c.requires.taken in (c.args.problem.now, (t.0, _, t.2.taken))

pub pass_over-requires : goal.pass_over-requires
pass_over-requires c = let t = c.requires.taken in (t.0, t.2.entries, t.2.taken)

pub returns : goal.returns
returns c = λ rows events s begins.
    let stored : HasStored c.args.problem.now c.args.self.now.walk = (rows, _, s.taken) in
    let place = c.of.ensures ∙ c.in_ok-path.ensures.items ∙ c.path.ensures.value in
    keep_more c.args.problem.now rows c.args.self.now events s c.requires.none c.requires.stands c.args.tree
    c.pass_over.new.self (c.pass_over.ensures.taken rows s.entries (bare_of c.args.tree) s.taken) _
    (shard_legal c.args.problem.now (record {
      number = c.args.self.now.number;
      lemma = c.lemma.result;
      path = c.of.result;
      tree = c.args.tree;
    }) c.args.self.now.walk.walk.aim.range c.path.result.now c.lemma.ensures.value
    (c.of.ensures ∙ c.in_ok-path.ensures.items)
    (c.lemma.ensures.there c.args.problem.now stored c.requires.stands)
    (c.path.ensures.legal c.args.problem.now stored)) c.lemma.ensures.value place refl c.push.new.self
    c.saturating_add-self.result c.in_ok-push.ensures.items
