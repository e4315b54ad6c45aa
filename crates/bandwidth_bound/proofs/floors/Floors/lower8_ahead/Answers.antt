use Rattle.std.proofs.Common.{[], ◌∷◌, ◌++◌, arith}
use Rattle.grouping_tree.specs.Grouped.{labels_of}
use Rattle.bandwidth_bound.proofs.Loads.{range_fits}
use Rattle.bandwidth_bound.proofs.floors.Floors.lower8_ahead.Goals as goal

pub lower8-requires : goal.lower8-requires
lower8-requires c =
    let (problem, values, belongs, legal, floors) = c.requires in
    let partial = c.args.partial.now in
    omega (
      arith,
      range_fits problem partial (labels_of partial ++ c.args.label ∷ []) belongs legal,
      c.ahead-ahead.ensures.load problem belongs legal,
    )
