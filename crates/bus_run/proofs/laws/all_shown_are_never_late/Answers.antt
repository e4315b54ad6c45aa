use Rattle.bus_run.proofs.BreakLaws.{none_late}
use Rattle.bus_run.proofs.laws.all_shown_are_never_late.Goals as goal

pub returns : goal.returns
returns c = none_late
