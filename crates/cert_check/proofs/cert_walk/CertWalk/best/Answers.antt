use Rattle.std.proofs.Common.{ap, subst}
use Rattle.cert_check.specs.Taken.{load_in}
use Rattle.cert_check.specs.Trees.{HasRoom}
use Rattle.cert_check.proofs.Found.{has_room}
use Rattle.cert_check.proofs.cert_walk.CertWalk.best.Goals as goal

pub returns-in-Some-clause-room : goal.returns-in-Some-clause-room
returns-in-Some-clause-room c = λ problem stored.
    let knows = stored.2.knows in
    subst HasRoom (ap load_in c.in-Some.is)
    (has_room problem stored.0 c.args.self.now.placing knows.stands knows.placed)
