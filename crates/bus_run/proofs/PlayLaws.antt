-- A run that is played stands.
use Rattle.std.proofs.Common.{◌≡◌, ℕ, ◌+◌, ◌-◌, ◌<◌, ◌≤◌, inl, inr, Bool, true, false, cond, List, [], ◌∷◌, length, slice_index, slice_set, refl, sym, ap, subst, ◌∙◌, arith, length-append}
use Rattle.std.proofs.lemmas.Bool.{cases_lt}
use Rattle.std.proofs.lemmas.List.{length-replicate, length-set}
use Rattle.pack_model.specs.declared.network.Network.{Network}
use Rattle.pack_model.specs.Network.{NetworkStands}
use Rattle.bus_run.specs.declared.run.BusFrame.{BusFrame}
use Rattle.bus_run.specs.declared.run.Release.{Release}
use Rattle.bus_run.specs.declared.run.Sent.{Sent}
use Rattle.bus_run.specs.declared.playing.Pick.{Pick}
use Rattle.bus_run.specs.Frames.{AreBusFrames, bus_frame_at}
use Rattle.bus_run.specs.Run.{Course, release_at, send_at, carried_by, end_before, IsUnsent, with_send}
use Rattle.bus_run.specs.Rules.{TakesFirst, IsInOrder, ReleaseStands, ReleasesStand, SendStands, RunStands}
use Rattle.bus_run.specs.Tables.{IsFirstFrom, HaveNext, IsLeastBelow, QueuedAfter, FramesBelow}
use Rattle.bus_run.specs.Played.{pick_at, contends_by, IsPicked, Follows, Contends, StartsAt, NoneStarts, IsPlayed}
use Rattle.bus_run.proofs.Numbers.{below_more}
use Rattle.bus_run.proofs.NextLaws.{takes_by_next, starts_by_least, entry_first, entry_queued, next_more, end_more, frames_below}
use Rattle.bus_run.proofs.SendMore.{send_kept, send_new, unsent_back, end_kept, next_kept, stands_kept}

-- what contends is queued from the start to the last tick of the bit
contends_bounds : (network : Network) (pick : Pick) (start : ℕ) → 1 ≤ network.nominal_ticks
    → (start ≤ contends_by network pick start)
    × (contends_by network pick start < start + network.nominal_ticks)
contends_bounds network pick start some = by pick.join refl
  where
    by : (join : Bool) → pick.join ≡ join
        → (start ≤ contends_by network pick start)
        × (contends_by network pick start < start + network.nominal_ticks)
    by true e =
        let is : contends_by network pick start ≡ start + network.nominal_ticks - 1 =
        ap (λ b. cond b (start + network.nominal_ticks - 1) start) e in
        (omega arith, omega arith)
    by false e =
        let is : contends_by network pick start ≡ start =
        ap (λ b. cond b (start + network.nominal_ticks - 1) start) e in
        (omega arith, omega arith)

-- each unsent release of a higher frame is queued after a time where the table's entries are
after_by_table : (run : Course) (number : ℕ) (table : List ℕ) (count time : ℕ) → FramesBelow run
    → HaveNext run number table
    → ((release : ℕ) → release < length run.releases → IsInOrder run release)
    → QueuedAfter run table count time → (release : ℕ) → IsUnsent run number release
    → (release_at run release).frame < count
    → time < (release_at run release).queued
after_by_table run number table count time below have order after release unsent higher =
    let there : release < length run.releases = unsent.there in
    omega (
      arith,
      after (release_at run release).frame higher
          (omega (arith, entry_first run number table below have release unsent)),
      entry_queued run number table below have order release unsent,
    )

-- a send that followed a pick still does
follows_kept : (network : Network) (frames : List BusFrame) (run : Course) (send : Sent) (pick : Pick)
    (number : ℕ) → number < length run.sends
    → Follows network frames pick run number → Follows network frames pick (with_send run send) number
follows_kept network frames run send pick number inside it =
    let is : send_at run number ≡ send_at (with_send run send) number =
    sym (send_kept run send number inside) in
    record {
      picked = subst (λ (s : Sent). IsPicked network (bus_frame_at frames (release_at run s.release).frame)
          pick s) is it.picked;
      contends = subst (λ (s : Sent). (release_at run s.release).queued ≤ contends_by network pick s.start) is
          it.contends;
      highest = λ release unsent.
          subst (λ (s : Sent). (release_at run release).frame < (release_at run s.release).frame
          → contends_by network pick s.start < (release_at run release).queued) is
          (it.highest release (unsent_back run send number release (omega arith) unsent));
    }

-- one send more
pub played_more : (network : Network) (frames : List BusFrame) (picks : List Pick) (run : Course)
    (table : List ℕ) (end start frame next : ℕ) (send : Sent)
    → NetworkStands network → AreBusFrames frames → ReleasesStand frames run
    → IsPlayed network frames picks run table end → StartsAt run table end start
    → Contends run table (contends_by network (pick_at picks (length run.sends)) start) frame
    → send.release ≡ slice_index table frame → send.start ≡ start
    → IsPicked network (bus_frame_at frames frame) (pick_at picks (length run.sends)) send
    → IsFirstFrom (with_send run send) frame (slice_index table frame + 1) next
    → IsPlayed network frames picks (with_send run send) (slice_set table frame next) (start + send.ticks)
played_more network frames picks run table end start frame next send network_stands are releases played starts
    contends release_is start_is picked from =
    let n : ℕ = length run.sends in
    let run' : Course = with_send run send in
    let pick : Pick = pick_at picks n in
    let time : ℕ = contends_by network pick start in
    let longer : length run'.sends ≡ n + 1 = length-append run.sends (send ∷ []) in
    let new : send_at run' n ≡ send = send_new run send in
    let below : FramesBelow run = frames_below frames run are releases in
    let order : (release : ℕ) → release < length run.releases → IsInOrder run release =
    λ r there. (releases r there).in_order in
    let have : HaveNext run' n table = next_kept run send n table (omega arith) played.next in
    let entry_frame : (release_at run (slice_index table frame)).frame ≡ frame =
    (played.next frame contends.inside).same contends.there in
    let new_release : (send_at run' n).release ≡ slice_index table frame =
    ap (λ (s : Sent). s.release) new ∙ release_is in
    let carried : (carried_by run' n).frame ≡ frame =
    ap (λ r. (release_at run r).frame) new_release ∙ entry_frame in
    let queued : (carried_by run' n).queued ≡ (release_at run (slice_index table frame)).queued =
    ap (λ r. (release_at run r).queued) new_release in
    let new_start : (send_at run' n).start ≡ start = ap (λ (s : Sent). s.start) new ∙ start_is in
    let bounds : (start ≤ time) × (time < start + network.nominal_ticks) =
    contends_bounds network pick start network_stands.nominal_low in
    let takes : TakesFirst run' n = takes_by_next run' n table below have (omega (arith, contends.there))
    (ap (slice_index table) carried ∙ sym new_release) in
    let is_least : IsLeastBelow run' table 128 starts.least = record {
      frame = starts.is_least.frame;
      inside = starts.is_least.inside;
      there = starts.is_least.there;
      reached = starts.is_least.reached;
      lowest = starts.is_least.lowest;
    } in
    let higher : (release : ℕ) → IsUnsent run' n release → (release_at run release).frame < frame
    → time < (release_at run release).queued =
    after_by_table run' n table frame time below have order contends.higher in
    let picked' : IsPicked network (bus_frame_at frames (carried_by run' n).frame) pick (send_at run' n) =
    subst (λ f. IsPicked network (bus_frame_at frames f) pick (send_at run' n)) (sym carried)
    (subst (λ (s : Sent). IsPicked network (bus_frame_at frames frame) pick s) (sym new) picked) in
    let here : SendStands network frames run' n = record {
      takes_first = takes;
      fits = ap (λ (l : List ℕ). length l) picked'.payload
          ∙ length-replicate (bus_frame_at frames (carried_by run' n).frame).size pick.fill;
      lasts = record { most = omega (arith, picked'.ticks); least = omega (arith, picked'.ticks) };
      starts = starts_by_least run' n table below have order starts.least is_least
          (omega (arith, starts.start_is, played.end_is, end_kept run send n (omega arith)))
          (omega (arith, starts.before_end));
      joined = omega (arith, contends.queued);
      highest = λ release unsent above. omega (arith, higher release unsent (omega arith));
    } in
    let times_are : contends_by network pick (send_at run' n).start ≡ time =
    ap (contends_by network pick) new_start in
    let follows : Follows network frames pick run' n = record {
      picked = picked';
      contends = omega (arith, contends.queued);
      highest = λ release unsent above. omega (arith, higher release unsent (omega arith));
    } in
    let Next : ℕ → Type 0 = λ m. HaveNext run' m (slice_set table frame next) in
    let Sends : ℕ → Type 0 = λ m. (number : ℕ) → number < m → SendStands network frames run' number in
    record {
      long = length-set _ _ _ ∙ played.long;
      sends = subst Sends (sym longer)
          (below_more (SendStands network frames run') n
          (λ number inside. stands_kept run send network frames number inside
          (played.sends number inside)) here);
      follows = λ number inside. elim (cases_lt number n) [
        | inl before ↦ follows_kept network frames run send (pick_at picks number) number before
            (played.follows number before)
        | inr last ↦ subst (λ m. Follows network frames (pick_at picks m) run' m) (let e : n ≡ number =
            omega arith in e) follows
      ];
      next = subst Next (sym longer)
          (subst (λ f. HaveNext run' (n + 1) (slice_set table f next)) carried
          (next_more run' n next table played.long below have takes
          (subst (λ r. IsFirstFrom run' (carried_by run' n).frame (r + 1) next) (sym new_release)
          (subst (λ f. IsFirstFrom run' f (slice_index table frame + 1) next) (sym carried) from))));
      end_is = sym (ap (end_before run') longer ∙ end_more run' n ∙ ap (λ (s : Sent). s.start + s.ticks) new
          ∙ ap (λ t. t + send.ticks) start_is);
    }

-- a release stands in each run of the same releases
pub release_same : (frames : List BusFrame) (run run' : Course) (release : ℕ) → run.releases ≡ run'.releases
    → ReleaseStands frames run release → ReleaseStands frames run' release
release_same frames run run' release same it =
    let moved : ReleaseStands frames
    (record { releases = run.releases; sends = run'.sends; until = run'.until }) release = record {
      frame_there = it.frame_there;
      queued = it.queued;
      period = it.period;
      in_order = it.in_order;
    } in
    subst (λ (rs : List Release). ReleaseStands frames
    (record { releases = rs; sends = run'.sends; until = run'.until }) release) same moved

-- a run that is played stands where no further send starts
pub played_stands : (network : Network) (frames : List BusFrame) (picks : List Pick) (run : Course)
    (table : List ℕ) (end : ℕ)
    → AreBusFrames frames → ReleasesStand frames run → IsPlayed network frames picks run table end
    → NoneStarts run table end
    → RunStands network frames run
played_stands network frames picks run table end are releases played none = record {
  releases = releases;
  sends = played.sends;
  no_further = λ release unsent.
      let below : FramesBelow run = frames_below frames run are releases in
      let there : release < length run.releases = unsent.there in
      let order : (release : ℕ) → release < length run.releases → IsInOrder run release =
      λ r there. (releases r there).in_order in
      omega (
        arith,
        none (release_at run release).frame (below release there)
            (omega (arith, entry_first run (length run.sends) table below played.next release unsent)),
        entry_queued run (length run.sends) table below played.next order release unsent,
        played.end_is,
      );
}
