use Rattle.cert_check.specs.Said.{said_by}
use Rattle.cert_check.specs.Taken.{load_in}
use Rattle.cert_check.proofs.cert_walk.CertWalk.verdict_joined.Goals as goal

pub returns-clause-told : goal.returns-clause-told
returns-clause-told c = λ rows entries taken.
    c.judge.ensures.told c.args.problem.now rows
    (said_by c.args.problem.now (load_in c.args.self.now.placing) entries) taken
