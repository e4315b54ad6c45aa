use Rattle.std.proofs.Common.{Err, ap, subst}
use Rattle.canpack_top.specs.Check.{IsJudgement, check_meaning, texts_at}
use Rattle.canpack_top.specs.Command.{names_of}
use Rattle.canpack_top.proofs.Runs.{judged, refusal, stopped}
use Rattle.canpack_top.proofs.check.check.Goals as goal

pub returns-in-Ok : goal.returns-in-Ok
returns-in-Ok g c = judged (names_of c.args.names) c.in-Ok.given _ c.judged_answer.ensures.ok c.judged_answer.ensures.err c.in-Ok.ensures.exact c.in-Ok.ensures.holds c.judgement_at.ensures.only

pub returns-in-Err : goal.returns-in-Err
returns-in-Err g c = stopped (check_meaning (names_of c.args.names)) c.in-Err.stop _ c.answer_of.ensures
    (λ what is told. refusal (texts_at (names_of c.args.names) (g.F.Folder.files c.args.folder.now)) what (subst (λ s. IsJudgement (Err s) (names_of c.args.names) (g.F.Folder.files c.args.folder.now)) is (c.in-Err.ensures.exact told)))
    (λ is. c.in-Err.ensures.read_fault (ap Err is)) c.judgement_at.ensures.only
