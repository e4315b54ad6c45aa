use Rattle.std.proofs.Common.{◌∙◌, ap, length}
use Rattle.par_check.proofs.shard_walk.goal_of.Goals as goal

pub returns-clause-stands : goal.returns-clause-stands
returns-clause-stands c = record {
  values = ap length (c.of.ensures ∙ c.in_ok-lemmas.ensures.items)
      ∙ c.lemma_values.ensures.senders c.args.problem.now c.requires;
  room = c.best.ensures.room c.args.problem.now c.requires;
}
