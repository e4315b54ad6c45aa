use Rattle.bus_run.proofs.TimesKept.{stands_never_late}
use Rattle.bus_run.proofs.laws.shown_is_never_late.Goals as goal

pub returns : goal.returns
returns c = stands_never_late
