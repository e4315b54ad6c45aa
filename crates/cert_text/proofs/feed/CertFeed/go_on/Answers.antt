use Rattle.std.proofs.Common.{◌≡◌, ◌++◌, true, false, sym, ◌∙◌}
use Rattle.std.proofs.lemmas.Result.{err_from_is_err_and}
use Rattle.cert_text.specs.declared.event.Event.TheVariants as event
use Rattle.cert_text.specs.Judging.{HearsEvent}
use Rattle.cert_text.specs.Sources.{text_refusal}
use Rattle.cert_text.proofs.FeedLaws.{finish_answer, finish_last, given_goes_on, given_more, lines_smaller, next_event, next_refused}
use Rattle.cert_text.proofs.SourceLaws.{reads_then}
use Rattle.cert_text.proofs.feed.CertFeed.go_on.Goals as goal

pub returns-in_err-event-clause-answer : goal.returns-in_err-event-clause-answer
returns-in_err-event-clause-answer g c =
    let x = c.in_err-event.ensures.event in
    let p = err_from_is_err_and c.from_residual.result c.from_residual.ensures.1 in
    rw (p.1, p.2) (
      x.0,
      x.1,
      λ bytes es given. next_refused (g.F.Folder.files c.args.folder.now) c.args.name.now c.args.self.now bytes x.0 es (text_refusal c.in_err-event.field-0.0) given c.requires.goes_on.some x.2,
    )

pub returns-in-Finish-clause-answer : goal.returns-in-Finish-clause-answer
returns-in-Finish-clause-answer g c =
    let x = c.in_ok-event.ensures.event in
    let y = c.finish.ensures.finish in
    let h : HearsEvent c.args.self.now c.hear_event.new.self x.0 event.Finish = rw c.in-Finish.is at x.2 in (
      x.0 ++ y.0,
      reads_then x.1 y.1 h.judges.count,
      λ bytes es given. finish_answer c.args.self.now c.hear_event.new.self c.finish.new.self y.0 bytes es c.finish.result x.1 h y.2 given,
    )

pub returns-in_default-clause-answer : goal.returns-in_default-clause-answer
returns-in_default-clause-answer g c =
    let x = c.in_ok-event.ensures.event in (
      x.0,
      x.1,
      λ bytes es given. next_event (g.F.Folder.files c.args.folder.now) c.args.name.now c.args.self.now c.hear_event.new.self bytes x.0 es c.in_ok-event.event given x.2 c.in_default.not-Finish,
    )

pub returns-in_default-clause-goes_on : goal.returns-in_default-clause-goes_on
returns-in_default-clause-goes_on g c =
    let x = c.in_ok-event.ensures.event in
    let r = c.requires.given in
    λ last. record {
      some = given_goes_on c.hear_event.new.self (r.0 ++ x.0) r.1 c.in_ok-event.event (given_more c.args.self.now c.hear_event.new.self r.0 x.0 r.1 c.in_ok-event.event r.2 x.2) c.in_default.not-Finish;
      within = x.2.judges.within;
      few = x.2.few;
    }

pub returns-in_default-clause-shrinks : goal.returns-in_default-clause-shrinks
returns-in_default-clause-shrinks g c =
    let h = c.in_ok-event.ensures.event.2 in
    λ last. lines_smaller c.args.self.now c.hear_event.new.self c.in_ok-event.ensures.event.0 h.before h.last h.judges

pub returns-in-Finish-clause-shrinks : goal.returns-in-Finish-clause-shrinks
returns-in-Finish-clause-shrinks g c =
    let y = c.finish.ensures.finish in
    λ last. absurd (let h : true ≡ false = sym (finish_last (g.F.Folder.files c.hear_event.new.folder) c.args.name.now c.hear_event.new.self c.finish.new.self y.0 c.finish.result y.2) ∙ last in cc)
