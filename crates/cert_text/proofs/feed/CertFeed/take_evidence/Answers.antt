use Rattle.std.proofs.Common.{refl}
use Rattle.cert_text.specs.declared.line.Line.TheVariants as line
use Rattle.cert_text.specs.Evidences.{BeginsAgainst}
use Rattle.cert_text.specs.Lines.{line_text}
use Rattle.cert_text.specs.Sources.{TakesUntil}
use Rattle.cert_text.proofs.FeedLaws.{here_judged}
use Rattle.cert_text.proofs.feed.CertFeed.take_evidence.Goals as goal

pub returns-clause-told : goal.returns-clause-told
returns-clause-told c =
    let label = c.in_ok-label.label in
    let e = c.in_ok-label.evidence in
    let after = c.in_ok-label.after.now in
    let begins : BeginsAgainst c.args.self.now.source.left label e after = rw c.ahead.ensures at c.in_ok-label.ensures in
    let takes : TakesUntil c.args.self.now.source c.take_until.new.self after = c.take_until.ensures (line_text (line.AgainstLine label e)) after begins.text refl in
    here_judged c.args.self.now _ (line.AgainstLine label e) after c.requires.within begins.text begins.in_range takes refl (c.if-not-take_against.ensures.taken refl label e)
