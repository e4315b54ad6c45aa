use Rattle.std.proofs.Common.{refl}
use Rattle.cert_text.specs.declared.line.Line.TheVariants as line
use Rattle.cert_text.specs.Evidences.{BeginsFail}
use Rattle.cert_text.specs.Lines.{line_text}
use Rattle.cert_text.specs.Sources.{TakesUntil}
use Rattle.cert_text.proofs.FeedLaws.{here_judged}
use Rattle.cert_text.proofs.feed.CertFeed.take_fail.Goals as goal

pub returns-clause-told : goal.returns-clause-told
returns-clause-told c =
    let n = c.in_ok-count.count in
    let after = c.in_ok-count.after.now in
    let begins : BeginsFail c.args.self.now.source.left n after = rw c.ahead.ensures at c.in_ok-count.ensures in
    let takes : TakesUntil c.args.self.now.source c.take_until.new.self after = c.take_until.ensures (line_text (line.FailLine n)) after begins.text refl in
    (begins.some, here_judged c.args.self.now _ (line.FailLine n) after c.requires.within begins.text begins.most takes refl (c.if-not-take_fail.ensures.taken refl))
