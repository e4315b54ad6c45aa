use Rattle.bus_run.proofs.TimesKept.{stands_never_late}
use Rattle.bus_run.proofs.late.first_late.Goals as goal

pub returns-in-None-clause-shown : goal.returns-in-None-clause-shown
returns-in-None-clause-shown c =
    λ network order place busy starts network_stands have stands by_number shown is.
    stands_never_late network c.args.frames.now c.args.run.now order place busy starts c.loop-number.number
    network_stands c.requires.frames have by_number
    stands shown is c.in-None.ensures
