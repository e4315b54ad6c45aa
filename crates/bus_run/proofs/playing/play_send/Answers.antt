use Rattle.std.proofs.Common.{◌≡◌, ◌+◌, length, slice_index, slice_set, sym, ap, subst, ◌∙◌, arith}
use Rattle.bus_run.specs.declared.playing.Pick.{Pick}
use Rattle.bus_run.specs.Frames.{bus_frame_at}
use Rattle.bus_run.specs.Run.{Course, with_send}
use Rattle.bus_run.specs.Tables.{IsFirstFrom}
use Rattle.bus_run.specs.Played.{pick_at, contends_by, IsPicked, Contends, IsPlayed}
use Rattle.bus_run.proofs.PlayLaws.{played_more}
use Rattle.bus_run.proofs.playing.play_send.Goals as goal

pub contends_until-time-requires-clause-limit : goal.contends_until-time-requires-clause-limit
contends_until-time-requires-clause-limit c = omega (arith, c.requires.limit, c.requires.starts.before_end)

pub overflow_cast-release : goal.overflow_cast-release
overflow_cast-release c = omega (arith, c.in-Some.ensures.there, c.requires.few)

pub overflow_add-ended : goal.overflow_add-ended
overflow_add-ended c =
    omega (arith, c.requires.limit, c.requires.starts.before_end, c.in_ok-send.ensures.limit)

pub push-requires : goal.push-requires
push-requires c = record {
  start = omega (arith, c.requires.limit, c.requires.starts.before_end, c.in_ok-send.ensures.start);
  ticks = c.in_ok-send.ensures.limit;
}

pub returns-clause-played : goal.returns-clause-played
returns-clause-played c =
    let pick_is : c.picked-pick.result ≡ pick_at c.args.picks.now (length c.args.run.now.sends) =
    c.picked-pick.ensures ∙ ap (pick_at c.args.picks.now) c.sent.ensures in
    let time_is : c.contends_until-time.result
    ≡ contends_by c.args.network.now (pick_at c.args.picks.now (length c.args.run.now.sends)) c.args.start =
    c.contends_until-time.ensures
    ∙ ap (λ (p : Pick). contends_by c.args.network.now p c.args.start) pick_is in
    let run_is : c.push.new.self ≡ with_send c.args.run.now c.in_ok-send.send = c.in_ok-push.ensures in
    let Played : Course → Type 0 = λ run. IsPlayed c.args.network.now c.args.frames.now c.args.picks.now run
    (slice_set c.args.next.now c.in-Some.frame c.first_from.result)
    (c.args.start + c.in_ok-send.send.ticks) in
    subst Played (sym run_is)
    (played_more c.args.network.now c.args.frames.now c.args.picks.now c.args.run.now c.args.next.now
    c.args.end c.args.start c.in-Some.frame
    c.first_from.result c.in_ok-send.send c.requires.network c.requires.frames c.requires.releases
    c.requires.played c.requires.starts
    (subst (λ time. Contends c.args.run.now c.args.next.now time c.in-Some.frame) time_is c.in-Some.ensures)
    c.in_ok-send.ensures.release c.in_ok-send.ensures.start
    (subst (λ (p : Pick). IsPicked c.args.network.now (bus_frame_at c.args.frames.now c.in-Some.frame) p
    c.in_ok-send.send) pick_is c.in_ok-send.ensures.picked)
    (subst (λ (run : Course). IsFirstFrom run c.in-Some.frame
    (slice_index c.args.next.now c.in-Some.frame + 1) c.first_from.result) run_is c.first_from.ensures))
