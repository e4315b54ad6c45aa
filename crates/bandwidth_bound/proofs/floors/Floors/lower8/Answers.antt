use Rattle.std.proofs.Common.{arith}
use Rattle.bandwidth_bound.proofs.Loads.{kept_fits}
use Rattle.bandwidth_bound.proofs.floors.Floors.lower8.Goals as goal

pub lower8-requires : goal.lower8-requires
lower8-requires c =
    let (problem, values, belongs, floors) = c.requires in
    omega (
      arith,
      kept_fits problem c.args.partial.now belongs,
      c.kept_load.ensures problem belongs,
    )
