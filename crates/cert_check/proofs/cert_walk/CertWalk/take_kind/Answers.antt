use Rattle.cert_check.proofs.StoreLaws.{kind_stored}
use Rattle.cert_check.proofs.cert_walk.CertWalk.take_kind.Goals as goal

pub returns : goal.returns
returns c = λ problem. kind_stored problem c.args.self.now c.args.kind
