use Rattle.std.proofs.Common.{◌∙◌, ap, sym}
use Rattle.cert_check.specs.Entries.{in_full}
use Rattle.par_check.specs.Gathered.{gathered_events}
use Rattle.par_check.proofs.ShardSteps.{next_of_tree, tree_begins, whole_more, without_part}
use Rattle.par_check.proofs.shard_walk.ShardWalk.gather.Goals as goal

pub take-requires : goal.take-requires
take-requires c =
    let t = c.requires.taken in
    next_of_tree c.args.problem.now t.0 c.args.self.now c.args.part t.1 t.2 c.args.event t.3

pub keep-requires-clause-taken : goal.keep-requires-clause-taken
keep-requires-clause-taken c =
    let t = c.requires.taken in
    let whole = sym (ap gathered_events c.in-Whole.is) ∙ c.in_ok-part.ensures in (
      t.0,
      in_full t.2.entries,
      without_part c.args.problem.now t.0 c.args.self.now c.args.part t.1 t.2 c.requires.none c.in-Whole.tree
          c.args.event whole,
      tree_begins c.args.problem.now t.0 c.args.self.now c.args.part t.1 t.2 c.requires.none c.in-Whole.tree
          c.args.event whole t.3,
    )

pub returns-in_ok-keep-in-Whole : goal.returns-in_ok-keep-in-Whole
returns-in_ok-keep-in-Whole c = λ rows events s begins.
    whole_more c.args.problem.now rows c.args.self.now c.args.part events s c.requires.none c.in-Whole.tree
    c.args.event (sym (ap gathered_events c.in-Whole.is) ∙ c.in_ok-part.ensures) c.keep.new.self begins
    c.in_ok-keep-in-Whole.ensures
