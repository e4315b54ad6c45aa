use Rattle.frame_ticks.proofs.RelationLaws.{Stuffed-exactly, Lasts-from_value, ticks_of-from_Lasts}
use Rattle.frame_ticks.proofs.laws.stuffing_is_exact.Goals as goal

pub returns-clause-outcome : goal.returns-clause-outcome
returns-clause-outcome c = Stuffed-exactly

pub returns-clause-length : goal.returns-clause-length
returns-clause-length c =
    λ network bits ticks. (ticks_of-from_Lasts network bits ticks, Lasts-from_value network bits ticks)
