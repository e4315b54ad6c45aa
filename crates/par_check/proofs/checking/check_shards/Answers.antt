use Rattle.std.proofs.Common.{arith, get_or, rules, Err, Ok}
use Rattle.par_check.specs.Shards.{AreFound}
use Rattle.par_check.proofs.Chunks.{chunk_found, join_chunks}
use Rattle.par_check.proofs.checking.check_shards.Goals as goal

pub returns-in-Ok : goal.returns-in-Ok
returns-in-Ok g c =
    join_chunks c.args.problem.now c.args.goal.now c.max-size.result c.args.shards.now c.in_ok-answers.answers.items
    c.deref.result.now (Ok c.in-Ok.lower) _ (omega arith) c.deref.ensures.value c.deref.ensures.len
    c.in_ok-answers.ensures.len
    (λ n d inside.
    let gives = (c.in_ok-answers.ensures.each n d inside).1 in
    let found : AreFound c.args.problem.now c.args.goal.now gives.argument.now
    (get_or c.in_ok-answers.answers.items n d) = search rules in
    chunk_found c.args.problem.now c.args.goal.now c.max-size.result c.args.shards.now gives.argument.now n
    (get_or c.in_ok-answers.answers.items n d) gives.argument_is.value found)
    c.in-Ok.ensures

pub returns : goal.returns
returns g c =
    join_chunks c.args.problem.now c.args.goal.now c.max-size.result c.args.shards.now c.in_ok-answers.answers.items
    c.deref.result.now (Err c.in-Err.fault) _ (omega arith) c.deref.ensures.value c.deref.ensures.len
    c.in_ok-answers.ensures.len
    (λ n d inside.
    let gives = (c.in_ok-answers.ensures.each n d inside).1 in
    let found : AreFound c.args.problem.now c.args.goal.now gives.argument.now
    (get_or c.in_ok-answers.answers.items n d) = search rules in
    chunk_found c.args.problem.now c.args.goal.now c.max-size.result c.args.shards.now gives.argument.now n
    (get_or c.in_ok-answers.answers.items n d) gives.argument_is.value found)
    c.in-Err.ensures
