use Rattle.std.proofs.Common.{refl}
use Rattle.std.proofs.lemmas.Bool.Decides.{nat_tests}
use Rattle.std.proofs.Common.{arith}
use Rattle.frame_ticks.proofs.Sending.{Sends-fifth, Sends-other}
use Rattle.frame_ticks.proofs.line.Line.send.Goals as goal

pub returns-then-run-eq-LONGEST_RUN-clause-sends : goal.returns-then-run-eq-LONGEST_RUN-clause-sends
returns-then-run-eq-LONGEST_RUN-clause-sends c =
    Sends-fifth _ _ c.args.bit (grind (arith, nat_tests)) refl refl refl

pub returns-else-run-eq-LONGEST_RUN-clause-sends : goal.returns-else-run-eq-LONGEST_RUN-clause-sends
returns-else-run-eq-LONGEST_RUN-clause-sends c =
    Sends-other _ _ c.args.bit (grind (arith, nat_tests)) c.run_with-run.ensures refl refl
