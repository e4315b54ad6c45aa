use Rattle.std.proofs.Common.{◌++◌, [], Ok, Err, refl, sym}
use Rattle.std.proofs.lemmas.Result.{err_from_is_err_and}
use Rattle.cert_text.proofs.GivenLaws.{events_begin}
use Rattle.cert_check.proofs.FeedChecks.{none_so_far, one_more, refused_told, refused_size, refused_some, refused_quiet, refused_rose, shown_told, shown_size, shown_some, denied_told, denied_size, denied_some, denied_unread}
use Rattle.par_check.specs.ShardWalks.{ShardsBegun}
use Rattle.par_check.proofs.feed_par.check_feed_par.Goals as goal

pub loop-feed-init : goal.loop-feed-init
loop-feed-init g c =
    let given = c.in_ok-feed.ensures.given in
    none_so_far g.F.Folder.files g.F.Folder.read_faults g.F.Folder.write_faults g.F.Folder.given
    c.args.name.now c.args.folder.now c.in_ok-feed.feed
    (ShardsBegun c.args.problem.now c.args.matrix.now c.in_ok-walk.walk) given c.in_ok-feed.ensures.goes_on
    (c.in_ok-walk.ensures, events_begin [] c.in_ok-feed.feed.position given.in_range given.stands)

-- ---- one event more

pub go_on-requires-clause-taken : goal.go_on-requires-clause-taken
go_on-requires-clause-taken g c = λ lifetimes outlive.
    let s = c.loop-feed.invariant in
    let x = c.in_ok-event.ensures.answer s.bytes s.events s.given in
    (c.args.matrix.now, s.events, s.taken.0, x.answer.begins)

pub loop-feed-preserved : goal.loop-feed-preserved
loop-feed-preserved g c =
    one_more c.loop-feed.invariant c.next.new.folder c.next.new.self
    (ShardsBegun c.args.problem.now c.args.matrix.now c.go_on.new.self) c.in_ok-event.event
    c.in_ok-event.ensures.answer c.in_ok-event.ensures.ended
    (λ events took begins. (c.in_ok-go_on.ensures c.args.matrix.now events took.0 begins, begins))

pub finish-requires-clause-taken : goal.finish-requires-clause-taken
finish-requires-clause-taken g c = λ lifetimes outlive.
    let s = c.loop-feed.invariant in (c.args.matrix.now, s.events, s.taken.0, s.taken.1)

-- ---- the feed refuses

pub returns-in_err-event-clause-told : goal.returns-in_err-event-clause-told
returns-in_err-event-clause-told g c =
    let s = c.loop-feed.invariant in
    let p = err_from_is_err_and c.from_residual-in_err-event.result c.from_residual-in_err-event.ensures.1 in
    rw (p.1, p.2) (refused_told s c.args.problem.now c.args.matrix.now c.next.new.folder c.next.new.self c.in_err-event.field-0.0
    (c.in_err-event.ensures.answer s.bytes s.events s.given))

pub returns-in_err-event-clause-size : goal.returns-in_err-event-clause-size
returns-in_err-event-clause-size g c =
    let s = c.loop-feed.invariant in
    let p = err_from_is_err_and c.from_residual-in_err-event.result c.from_residual-in_err-event.ensures.1 in
    rw (p.1, p.2) (refused_size s c.args.problem.now c.args.matrix.now c.next.new.folder c.next.new.self c.in_err-event.field-0.0
    (c.in_err-event.ensures.answer s.bytes s.events s.given))

pub returns-in_err-event-clause-some : goal.returns-in_err-event-clause-some
returns-in_err-event-clause-some g c =
    let s = c.loop-feed.invariant in
    let x = c.in_err-event.ensures.answer s.bytes s.events s.given in
    let p = err_from_is_err_and c.from_residual-in_err-event.result c.from_residual-in_err-event.ensures.1 in
    rw (p.1, p.2) (
      s.bytes ++ x.more,
      refused_some s c.args.problem.now c.args.matrix.now c.next.new.folder c.next.new.self c.in_err-event.field-0.0 x,
    )

pub returns-in_err-event-clause-quiet : goal.returns-in_err-event-clause-quiet
returns-in_err-event-clause-quiet g c =
    let s = c.loop-feed.invariant in
    let p = err_from_is_err_and c.from_residual-in_err-event.result c.from_residual-in_err-event.ensures.1 in
    rw (p.1, p.2) (refused_quiet s c.args.problem.now c.args.matrix.now c.next.new.folder c.next.new.self c.in_err-event.field-0.0
    (c.in_err-event.ensures.answer s.bytes s.events s.given))

pub returns-in_err-event-clause-read_fault : goal.returns-in_err-event-clause-read_fault
returns-in_err-event-clause-read_fault g c =
    let s = c.loop-feed.invariant in
    let p = err_from_is_err_and c.from_residual-in_err-event.result c.from_residual-in_err-event.ensures.1 in
    rw (p.1, p.2) (refused_rose s c.args.problem.now c.args.matrix.now c.next.new.folder c.next.new.self
    c.in_err-event.field-0.0 (c.in_err-event.ensures.answer s.bytes s.events s.given))

-- ---- memory runs out

pub returns-in_err-go_on-clause-some : goal.returns-in_err-go_on-clause-some
returns-in_err-go_on-clause-some g c =
    let p = err_from_is_err_and c.from_residual-in_err-go_on.result c.from_residual-in_err-go_on.ensures.1 in
    rw (p.1, p.2) ([], tt)

-- ---- the walk denies

pub returns-in_err-shown-clause-read_fault : goal.returns-in_err-shown-clause-read_fault
returns-in_err-shown-clause-read_fault g c =
    let p = err_from_is_err_and c.from_residual-in_err-shown.result c.from_residual-in_err-shown.ensures.1 in
    rw (p.1, p.2) (denied_unread c.in_err-shown.field-0.0 _)

pub returns-in_err-shown-clause-told : goal.returns-in_err-shown-clause-told
returns-in_err-shown-clause-told g c =
    let p = err_from_is_err_and c.from_residual-in_err-shown.result c.from_residual-in_err-shown.ensures.1 in
    let e = c.in_err-shown.ensures in
    rw (p.1, p.2) (denied_told c.loop-feed.invariant c.args.problem.now c.args.matrix.now (sym c.loop-feed-test.ensures)
    (Err c.in_err-shown.field-0.0) (λ marked parts took. (e c.args.matrix.now marked parts took).0)
    (λ marked parts took. (e c.args.matrix.now marked parts took).1)
    c.in_err-shown.field-0.0 refl)

pub returns-in_err-shown-clause-size : goal.returns-in_err-shown-clause-size
returns-in_err-shown-clause-size g c =
    let p = err_from_is_err_and c.from_residual-in_err-shown.result c.from_residual-in_err-shown.ensures.1 in
    let e = c.in_err-shown.ensures in
    rw (p.1, p.2) (denied_size c.loop-feed.invariant c.args.problem.now c.args.matrix.now (sym c.loop-feed-test.ensures)
    (Err c.in_err-shown.field-0.0) (λ marked parts took. (e c.args.matrix.now marked parts took).0)
    (λ marked parts took. (e c.args.matrix.now marked parts took).1)
    c.in_err-shown.field-0.0)

pub returns-in_err-shown-clause-some : goal.returns-in_err-shown-clause-some
returns-in_err-shown-clause-some g c =
    let s = c.loop-feed.invariant in
    let p = err_from_is_err_and c.from_residual-in_err-shown.result c.from_residual-in_err-shown.ensures.1 in
    let e = c.in_err-shown.ensures in
    rw (p.1, p.2) (
      s.bytes,
      denied_some s c.args.problem.now c.args.matrix.now (sym c.loop-feed-test.ensures)
          (Err c.in_err-shown.field-0.0) (λ marked parts took. (e c.args.matrix.now marked parts took).0)
          (λ marked parts took. (e c.args.matrix.now marked parts took).1)
          c.in_err-shown.field-0.0 refl,
    )

-- ---- the verdict

pub returns-clause-told : goal.returns-clause-told
returns-clause-told g c =
    let e = c.in_ok-shown.ensures in
    shown_told c.loop-feed.invariant c.args.problem.now c.args.matrix.now (sym c.loop-feed-test.ensures) (Ok c.in_ok-shown.shown)
    (λ marked parts took. (e c.args.matrix.now marked parts took).0)
    (λ marked parts took. (e c.args.matrix.now marked parts took).1) c.in_ok-shown.shown refl

pub returns-clause-size : goal.returns-clause-size
returns-clause-size g c =
    let e = c.in_ok-shown.ensures in
    shown_size c.loop-feed.invariant c.args.problem.now c.args.matrix.now (sym c.loop-feed-test.ensures) (Ok c.in_ok-shown.shown)
    (λ marked parts took. (e c.args.matrix.now marked parts took).0)
    (λ marked parts took. (e c.args.matrix.now marked parts took).1) c.in_ok-shown.shown

pub returns-clause-some : goal.returns-clause-some
returns-clause-some g c =
    let s = c.loop-feed.invariant in
    let e = c.in_ok-shown.ensures in (
      s.bytes,
      shown_some s c.args.problem.now c.args.matrix.now (sym c.loop-feed-test.ensures) (Ok c.in_ok-shown.shown)
          (λ marked parts took. (e c.args.matrix.now marked parts took).0)
          (λ marked parts took. (e c.args.matrix.now marked parts took).1) c.in_ok-shown.shown refl,
    )
