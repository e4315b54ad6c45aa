use Rattle.std.proofs.Common.{◌≡◌, ◌∙◌, Ok, IsSome, subst, sym}
use Rattle.pack_base.specs.Outside.{Files}
use Rattle.canpack_top.specs.Command.{Names, names_of}
use Rattle.canpack_top.specs.Files.{cert_at, matrix_at}
use Rattle.canpack_top.specs.Verdict.{IsJudged}
use Rattle.canpack_top.proofs.Judging.{judgement_is}
use Rattle.canpack_top.proofs.check.judgement_at.Goals as goal

pub returns-clause-exact : goal.returns-clause-exact
returns-clause-exact g c = λ told.
    let names : Names = names_of c.args.names in
    let files : Files = g.F.Folder.files c.args.folder.now in
    let first : g.F.Folder.files c.read_problem.new.folder ≡ files = c.read_problem.ensures.only.same in
    let both : g.F.Folder.files c.matrix_at.new.folder ≡ files = c.matrix_at.ensures.only.same ∙ first in
    judgement_is names files c.in_ok-problem.problem c.in_ok-matrix.matrix c.in_ok-found.found _
    (c.in_ok-problem.ensures.exact told)
    (subst (λ at. matrix_at at names.matrix ≡ Ok c.in_ok-matrix.matrix) first
    (c.in_ok-matrix.ensures.exact (subst IsSome (sym first) told)))
    (subst (λ at. IsJudged (Ok c.in_ok-found.found) c.in_ok-problem.problem c.in_ok-matrix.matrix (cert_at at names.cert))
    both (c.in_ok-found.ensures.exact (subst IsSome (sym both) told)))
    c.hyper.ensures.hyper
