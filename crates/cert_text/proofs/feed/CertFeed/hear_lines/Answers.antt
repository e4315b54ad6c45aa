use Rattle.std.proofs.Common.{◌≡◌, ◌++◌, None, Some, refl}
use Rattle.std.proofs.lemmas.Result.{err_from_is_err_and}
use Rattle.cert_text.specs.declared.line.Line.TheVariants as line
use Rattle.cert_text.specs.Heard.{hear, heard_by}
use Rattle.cert_text.specs.Judging.{HearsLine}
use Rattle.cert_text.specs.Sources.{text_refusal}
use Rattle.cert_text.proofs.FeedLaws.{event_begun, event_heard, event_more, event_refused, event_same, here_heard, here_more, same_smaller}
use Rattle.cert_text.proofs.SourceLaws.{reads_then}
use Rattle.cert_text.proofs.feed.CertFeed.hear_lines.Goals as goal

pub loop-label-init : goal.loop-label-init
loop-label-init g c = (
  event_begun g.F.Folder.files g.F.Folder.read_faults g.F.Folder.write_faults g.F.Folder.given c.args.name.now c.args.self.now c.begin.new.self c.args.folder.now (heard_by c.in_ok-hearing.hearing) c.requires.within
      c.in_ok-hearing.ensures.begun,
  c.in_ok-hearing.ensures.closed,
)

pub returns-in-Some-2-clause-event : goal.returns-in-Some-2-clause-event
returns-in-Some-2-clause-event g c =
    let s = c.loop-label.invariant.0 in
    let h : (heard_by c.add.new.self, Some c.in-Some-2.event) ≡ hear (heard_by c.loop-label.hearing) (line.AgainstLine c.in-Some.label c.in-Some.evidence) = rw c.in-Some-2.is at c.in_ok-event.ensures in
    (s.more, s.reads, here_heard c.take_evidence.new.self (line.AgainstLine c.in-Some.label c.in-Some.evidence) (heard_by c.add.new.self) c.in-Some-2.event s c.in-Some.ensures.told h)

pub loop-label-preserved-in-Some : goal.loop-label-preserved-in-Some
loop-label-preserved-in-Some g c =
    let s = c.loop-label.invariant.0 in
    let h : (heard_by c.add.new.self, None) ≡ hear (heard_by c.loop-label.hearing) (line.AgainstLine c.in-Some.label c.in-Some.evidence) = rw c.in_default-2.is at c.in_ok-event.ensures in
    (here_more c.take_evidence.new.self (line.AgainstLine c.in-Some.label c.in-Some.evidence) (heard_by c.add.new.self) s c.in-Some.ensures.told h, c.in-Some.ensures.closed)

pub returns-in_err-heard-clause-event : goal.returns-in_err-heard-clause-event
returns-in_err-heard-clause-event g c =
    let s = event_same c.take_evidence.new.self (c.in_default.ensures.kept refl) c.loop-label.invariant.0 in
    let x = c.in_err-heard.ensures.line in
    let p = err_from_is_err_and c.from_residual-in_err-heard.result c.from_residual-in_err-heard.ensures.1 in
    rw (p.1, p.2) (s.more ++ x.0, reads_then s.reads x.1 s.judges.count, event_refused x.0 (text_refusal c.in_err-heard.field-0.0) s x.2)

pub loop-label-preserved : goal.loop-label-preserved
loop-label-preserved g c =
    let s = event_same c.take_evidence.new.self (c.in_default.ensures.kept refl) c.loop-label.invariant.0 in
    let x = c.in_ok-heard.ensures.line in
    let l : HearsLine c.take_evidence.new.self c.hear_line.new.self x.0 (heard_by c.loop-label.hearing) (heard_by c.in_ok-heard.heard) None = rw c.in_default-event.is at x.2 in
    (event_more c.hear_line.new.folder c.hear_line.new.self (heard_by c.in_ok-heard.heard) x.0 s x.1 l, c.in_ok-heard.ensures.closed)

pub loop-label-smaller : goal.loop-label-smaller
loop-label-smaller g c =
    let l = c.in_ok-heard.ensures.line.2 in same_smaller c.loop-label.self c.take_evidence.new.self c.hear_line.new.self c.in_ok-heard.ensures.line.0 l.line (c.in_default.ensures.kept refl) l.judges

pub returns-in-Some-event-clause-event : goal.returns-in-Some-event-clause-event
returns-in-Some-event-clause-event g c =
    let s = event_same c.take_evidence.new.self (c.in_default.ensures.kept refl) c.loop-label.invariant.0 in
    let x = c.in_ok-heard.ensures.line in
    let l : HearsLine c.take_evidence.new.self c.hear_line.new.self x.0 (heard_by c.loop-label.hearing) (heard_by c.in_ok-heard.heard) (Some c.in-Some-event.event) = rw c.in-Some-event.is at x.2 in
    (s.more ++ x.0, reads_then s.reads x.1 s.judges.count, event_heard c.hear_line.new.self (heard_by c.in_ok-heard.heard) x.0 c.in-Some-event.event s l)
