use Rattle.std.proofs.Common.{◌∙◌, subst, sym}
use Rattle.canpack_top.specs.Files.{cert_at}
use Rattle.canpack_top.specs.Verdict.{IsJudged}
use Rattle.canpack_top.proofs.Judging.{fault_is, judges}
use Rattle.canpack_top.proofs.verdict.judge.Goals as goal

pub returns-clause-exact : goal.returns-clause-exact
returns-clause-exact g c = λ told.
    subst (λ answer. IsJudged answer c.args.problem.now c.args.matrix.now
    (cert_at (g.F.Folder.files c.args.folder.now) c.args.name.now)) (sym c.found_of.ensures)
    (judges c.args.problem.now c.args.matrix.now (g.F.Folder.files c.args.folder.now) c.args.name.now
    c.check_feed_par.result (c.check_feed_par.ensures.told told) (c.check_feed_par.ensures.size told))

pub returns-clause-read_fault : goal.returns-clause-read_fault
returns-clause-read_fault g c = λ is.
    c.check_feed_par.ensures.read_fault (fault_is c.check_feed_par.result (sym c.found_of.ensures ∙ is))
