use Rattle.cert_text.specs.CertEvents.{cert_events}
use Rattle.par_check.proofs.shard_walk.ShardWalk.finish.Goals as goal

pub verdict-requires-clause-taken : goal.verdict-requires-clause-taken
verdict-requires-clause-taken g c =
    let t = c.requires.taken in (t.0, t.1, c.in_ok-judge.ensures.stays t.0 t.1 t.2 t.3, t.3)

pub returns : goal.returns
returns g c = λ rows marked parts begun.
    c.verdict.ensures.found rows marked parts
    (c.in_ok-judge.ensures.stays rows (cert_events marked) begun.0 begun.1)
