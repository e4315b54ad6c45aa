use Rattle.std.proofs.Common.{arith}
use Rattle.bandwidth_bound.proofs.Loads.{kept_fits}
use Rattle.bandwidth_bound.proofs.bounds.load8.Goals as goal

pub kept_load-requires : goal.kept_load-requires
kept_load-requires c = (c.args.problem.now, c.requires)

pub overflow_mul-result : goal.overflow_mul-result
overflow_mul-result c =
    let same = c.kept_load.ensures c.args.problem.now c.requires in
    omega (arith, kept_fits c.args.problem.now c.args.partial.now c.requires, same)
