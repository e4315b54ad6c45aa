use Rattle.std.proofs.Common.{None, map, subst}
use Rattle.cert_text.specs.CertEvents.{cert_events}
use Rattle.cert_text.specs.Parts.{unmark_cert}
use Rattle.cert_check.specs.Entries.{as_event}
use Rattle.cert_check.specs.Said.{said_by}
use Rattle.cert_check.specs.Taken.{load_in}
use Rattle.cert_check.specs.Told.{IsFoundTold}
use Rattle.cert_check.proofs.Judged.{found_cert, holds_cert}
use Rattle.cert_check.proofs.SaidLaws.{said_cert}
use Rattle.cert_check.proofs.cert_walk.CertWalk.verdict.Goals as goal

pub returns-clause-found : goal.returns-clause-found
returns-clause-found c = λ rows marked parts taken.
    let best = load_in c.args.self.now.placing in
    found_cert c.args.problem.now rows c.args.self.now.has_rows c.args.self.now.placing (unmark_cert marked)
    taken.knows parts c.judge.result
    (subst (λ s. IsFoundTold c.args.problem.now rows best s None c.judge.result)
    (said_cert c.args.problem.now best marked)
    (c.judge.ensures.told c.args.problem.now rows
    (said_by c.args.problem.now best (map as_event (cert_events marked))) taken))

pub returns-clause-holds : goal.returns-clause-holds
returns-clause-holds c = λ rows marked parts taken.
    holds_cert c.args.problem.now rows c.args.self.now.has_rows c.args.self.now.placing (unmark_cert marked)
    taken.knows c.judge.result (returns-clause-found c rows marked parts taken)

pub returns-clause-told : goal.returns-clause-told
returns-clause-told c = λ rows entries taken.
    c.judge.ensures.told c.args.problem.now rows
    (said_by c.args.problem.now (load_in c.args.self.now.placing) entries) taken
