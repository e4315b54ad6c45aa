use Rattle.cert_check.proofs.StoreLaws.{line_stored}
use Rattle.cert_check.proofs.cert_walk.CertWalk.take_line.Goals as goal

pub returns : goal.returns
returns c =
    line_stored c.args.problem.now c.args.self.now c.args.line.now c.line_shows.result c.line_shows.ensures
    c.saturating_add-self.result c.saturating_add-self.ensures
