use Rattle.case_gen.proofs.Cases.{IsMade}
use Rattle.case_gen.proofs.generate.make_case.Given as goal

abbrev pub invariant-loop-place : goal.invariant-loop-place
invariant-loop-place l = IsMade l.number l.place l.signals.items l.draws.state
