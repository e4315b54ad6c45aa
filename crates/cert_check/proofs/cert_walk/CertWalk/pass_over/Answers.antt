use Rattle.std.proofs.Common.{[], ap, sym, subst, ◌++◌, ◌∷◌, ◌∙◌}
use Rattle.cert_text.specs.Trees.{unmark}
use Rattle.cert_check.specs.Entries.{as_hole}
use Rattle.cert_check.specs.Said.{said_by}
use Rattle.cert_check.specs.Taken.{Stores, load_in}
use Rattle.cert_check.proofs.SaidLaws.{said_more}
use Rattle.cert_check.proofs.cert_walk.CertWalk.pass_over.Goals as goal

pub returns : goal.returns
returns c = record {
  taken = λ rows entries tree taken.
      let best = load_in c.args.self.now.placing in
      let step = c.take_hole.ensures (unmark tree) in
      subst (Stores c.args.problem.now rows c.take_hole.new.self)
      (said_more c.args.problem.now best entries (as_hole tree)
      ∙ ap (λ placing. said_by c.args.problem.now (load_in placing) (entries ++ as_hole tree ∷ []))
      (sym step.placing))
      (step.stores rows (said_by c.args.problem.now best entries) taken);
}
