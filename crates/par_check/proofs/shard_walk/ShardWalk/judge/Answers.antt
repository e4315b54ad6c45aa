use Rattle.std.proofs.Common.{◌≡◌, ◌∙◌, [], sym, Err, Ok}
use Rattle.cert_check.specs.Taken.{falls}
use Rattle.par_check.specs.ShardWalks.{goal_by}
use Rattle.par_check.proofs.ShardSteps.{batch_denied, batch_shown, found_same, items_none, items_same, neither, some_fall}
use Rattle.par_check.proofs.shard_walk.ShardWalk.judge.Goals as goal

pub returns-in-Ok-clause-stays : goal.returns-in-Ok-clause-stays
returns-in-Ok-clause-stays g c = λ rows events s begins.
    let empty : c.replace-batch.new.dest.items ≡ [] =
    items_none c.replace-batch.new.dest c.new.result c.replace-batch.ensures.after c.new.ensures.items in
    let calm =
    neither c.args.self.now.denied (falls c.args.self.now.walk) (sym c.has_failed.ensures ∙ c.if-has_failed.false) in
    batch_shown c.args.problem.now rows c.args.self.now events s c.replace-batch.new.dest empty begins calm.0 calm.1
    c.in-Ok.joined.lower c.lesser-self.result
    (found_same c.args.problem.now c.in_ok-goal.goal (goal_by c.args.self.now.walk) c.deref.result.now
    c.args.self.now.batch.items (Ok c.in-Ok.joined.lower) c.in_ok-goal.ensures.goal
    (c.deref.ensures.value ∙ items_same c.replace-batch.result c.args.self.now.batch c.replace-batch.ensures.value)
    c.in-Ok.ensures) c.lesser-self.ensures

pub returns-in-Err-RejectedTree-clause-stays : goal.returns-in-Err-RejectedTree-clause-stays
returns-in-Err-RejectedTree-clause-stays g c = λ rows events s begins.
    let empty : c.replace-batch.new.dest.items ≡ [] =
    items_none c.replace-batch.new.dest c.new.result c.replace-batch.ensures.after c.new.ensures.items in
    let calm =
    neither c.args.self.now.denied (falls c.args.self.now.walk) (sym c.has_failed.ensures ∙ c.if-has_failed.false) in
    batch_denied c.args.problem.now rows c.args.self.now events s c.replace-batch.new.dest empty begins calm.0 calm.1
    (some_fall c.args.problem.now (goal_by c.args.self.now.walk) c.args.self.now.batch.items
    c.in-Err-RejectedTree.field-0 c.in-Err-RejectedTree.field-0-is
    (found_same c.args.problem.now c.in_ok-goal.goal (goal_by c.args.self.now.walk) c.deref.result.now
    c.args.self.now.batch.items (Err c.in-Err-RejectedTree.field-0) c.in_ok-goal.ensures.goal
    (c.deref.ensures.value ∙ items_same c.replace-batch.result c.args.self.now.batch c.replace-batch.ensures.value)
    c.in-Err-RejectedTree.ensures))
