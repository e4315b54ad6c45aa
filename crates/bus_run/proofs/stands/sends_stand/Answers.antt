use Rattle.std.proofs.Common.{◌≡◌, ◌+◌, length, slice_set, refl, sym, ap, subst, ◌∙◌, arith}
use Rattle.std.proofs.lemmas.Bool.{false≢true}
use Rattle.std.proofs.lemmas.List.{length-set}
use Rattle.bus_run.specs.declared.run.Release.{Release}
use Rattle.bus_run.specs.declared.run.Sent.{Sent}
use Rattle.bus_run.specs.Run.{release_at, send_at, carried_by}
use Rattle.bus_run.specs.Rules.{SendStands, RunBreaks, at_send, at_end}
use Rattle.bus_run.specs.Tables.{IsFirstFrom, HaveNext}
use Rattle.bus_run.proofs.Numbers.{below_more}
use Rattle.bus_run.proofs.NextLaws.{next_more, end_more, frames_below}
use Rattle.bus_run.proofs.stands.sends_stand.Goals as goal

pub returns-in-Err-clause-breaks : goal.returns-in-Err-clause-breaks
returns-in-Err-clause-breaks c =
    at_send c.requires.releases (record {
      inside = omega arith;
      earlier = c.loop-number.invariant.stand;
      breaks = c.in-Err.ensures.breaks;
    })

pub loop-number-preserved : goal.loop-number-preserved
loop-number-preserved c =
    let here : SendStands c.args.network.now c.args.frames.now c.args.run.now c.loop-number.number =
    c.in_default.ensures.stands in
    let send : c.send-send.result.now ≡ send_at c.args.run.now c.loop-number.number =
    c.send-send.ensures.value in
    let release : c.send-send.result.now.release ≡ (send_at c.args.run.now c.loop-number.number).release =
    ap (λ (s : Sent). s.release) send in
    let frame : c.release-frame.result.frame ≡ (carried_by c.args.run.now c.loop-number.number).frame =
    ap (λ (r : Release). r.frame) c.release-frame.ensures.value
    ∙ ap (λ (s : Sent). (release_at c.args.run.now s.release).frame) send in
    let from : IsFirstFrom c.args.run.now (carried_by c.args.run.now c.loop-number.number).frame
    ((send_at c.args.run.now c.loop-number.number).release + 1) c.first_from.result =
    subst (λ n. IsFirstFrom c.args.run.now (carried_by c.args.run.now c.loop-number.number).frame (n + 1)
    c.first_from.result) release
    (subst (λ f. IsFirstFrom c.args.run.now f (c.send-send.result.now.release + 1) c.first_from.result) frame
    c.first_from.ensures) in
    record {
      long = length-set _ _ _ ∙ c.loop-number.invariant.long;
      stand = below_more (SendStands c.args.network.now c.args.frames.now c.args.run.now) c.loop-number.number
          c.loop-number.invariant.stand here;
      next = subst (λ f. HaveNext c.args.run.now (c.loop-number.number + 1)
          (slice_set c.loop-number.next f c.first_from.result)) (sym frame)
          (next_more c.args.run.now c.loop-number.number c.first_from.result c.loop-number.next
          c.loop-number.invariant.long
          (frames_below c.args.frames.now c.args.run.now c.requires.frames c.requires.releases)
          c.loop-number.invariant.next here.takes_first from);
      end = ap (λ (s : Sent). s.start + s.ticks) send ∙ sym (end_more c.args.run.now c.loop-number.number);
    }

pub returns-then-no_further-clause-stands : goal.returns-then-no_further-clause-stands
returns-then-no_further-clause-stands c = record {
  releases = c.requires.releases;
  sends = λ number inside. c.loop-number.invariant.stand number (omega arith);
  no_further = c.if-no_further.ensures.0 refl;
}

pub returns-else-no_further-clause-breaks : goal.returns-else-no_further-clause-breaks
returns-else-no_further-clause-breaks c =
    let sent : length c.args.run.now.sends ≡ c.sent.result = omega arith in
    subst (RunBreaks c.args.network.now c.args.frames.now c.args.run.now 11) sent
    (at_end c.requires.releases (λ number inside. c.loop-number.invariant.stand number (omega arith))
    (λ none. false≢true (c.if-no_further.ensures.1 none)))
