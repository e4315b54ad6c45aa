use Rattle.bandwidth_bound.proofs.FloorsItems.{they_rise}
use Rattle.bandwidth_bound.proofs.FloorsRests.{none_left}
use Rattle.bandwidth_bound.proofs.floors.Rest.none.Goals as goal

pub returns : goal.returns
returns c = λ problem values items stands in_range.
    none_left problem values items (they_rise problem stands items in_range)
