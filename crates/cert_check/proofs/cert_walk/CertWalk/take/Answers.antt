use Rattle.std.proofs.Common.{[], ap, sym, subst, ◌++◌, ◌∷◌, ◌∙◌}
use Rattle.cert_check.specs.Entries.{as_event}
use Rattle.cert_check.specs.Said.{said_by}
use Rattle.cert_check.specs.Taken.{Stores, load_in}
use Rattle.cert_check.proofs.SaidLaws.{said_more}
use Rattle.cert_check.proofs.cert_walk.CertWalk.take.Goals as goal

pub returns : goal.returns
returns c = record {
  taken = λ rows entries taken.
      let best = load_in c.args.self.now.placing in
      subst (Stores c.args.problem.now rows c.take_event.new.self)
      (said_more c.args.problem.now best entries (as_event c.args.event.now)
      ∙ ap (λ placing. said_by c.args.problem.now (load_in placing) (entries ++ as_event c.args.event.now ∷ []))
      (sym c.take_event.ensures.placing))
      (c.take_event.ensures.stores rows (said_by c.args.problem.now best entries) taken);
}
