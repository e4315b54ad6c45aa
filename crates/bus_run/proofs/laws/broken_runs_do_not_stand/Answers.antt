use Rattle.bus_run.proofs.BreakLaws.{run_breaks}
use Rattle.bus_run.proofs.laws.broken_runs_do_not_stand.Goals as goal

pub returns : goal.returns
returns c = run_breaks
