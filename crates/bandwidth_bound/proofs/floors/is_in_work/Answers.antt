use Rattle.bandwidth_bound.proofs.FloorsRests.{in_work_is}
use Rattle.bandwidth_bound.proofs.floors.is_in_work.Goals as goal

pub returns-then-place-gt0 : goal.returns-then-place-gt0
returns-then-place-gt0 c = λ d.
    in_work_is c.args.items.now c.args.place c.index-items-place.result
    c.index-items-place-then-place-gt0.result d c.if-place-gt0.true c.requires
