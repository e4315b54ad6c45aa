use Rattle.std.proofs.Common.{ap, length, nat_eq, not, ◌∙◌}
use Rattle.cert_check.proofs.StoreStart.{none_stored, row_said}
use Rattle.cert_check.proofs.cert_walk.CertWalk.new.Goals as goal

pub returns : goal.returns
returns c =
    none_stored c.args.problem.now c.args.matrix.now (not c.is_empty.result) c.in_ok-placing.placing
    c.begin.new.self c.place.ensures.stands c.place.ensures.sorted
    (ap not (c.is_empty.ensures ∙ ap (λ rows. nat_eq (length rows) 0) c.rows.ensures.rows)
    ∙ row_said c.args.matrix.now)
    c.in_ok-placing.ensures.placed c.begin.ensures.walks c.begin.ensures.begins c.begin.ensures.aim
    (c.begin.ensures.values ∙ c.in_ok-walk.ensures.values)
