use Rattle.cert_check.proofs.StoreLaws.{finish_stored}
use Rattle.cert_check.proofs.cert_walk.CertWalk.take_finish.Goals as goal

pub returns : goal.returns
returns c = λ problem. finish_stored problem c.args.self.now
