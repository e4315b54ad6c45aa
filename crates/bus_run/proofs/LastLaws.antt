-- Laws of the table of last releases.
use Rattle.std.proofs.Common.{◌≡◌, ℕ, ◌+◌, ◌-◌, ◌<◌, ◌≤◌, inl, inr, List, length, get_or, slice_index, slice_set, replicate, set, get_or-set_same, get_or-set_other, sym, ap, subst, ◌∙◌, arith}
use Rattle.std.proofs.lemmas.Bool.{cases_lt, cases_eq}
use Rattle.std.proofs.lemmas.List.{get_or-replicate}
use Rattle.std.proofs.lemmas.List.Elements.{All-get_or}
use Rattle.busy_period.specs.Timed.{IsInRange, none_frame}
use Rattle.bus_run.specs.declared.run.BusFrame.{BusFrame}
use Rattle.bus_run.specs.declared.run.Release.{Release}
use Rattle.bus_run.specs.Frames.{AreBusFrames, bus_frame_at, times_of}
use Rattle.bus_run.specs.Run.{Course, release_at}
use Rattle.bus_run.specs.Rules.{IsQueued, IsPeriodic, IsInOrder, ReleaseStands, ReleaseBreaks, frame_missing, queued_out, too_soon, out_of_order}
use Rattle.bus_run.specs.Tables.{HasLast, HaveLast}
use Rattle.bus_run.proofs.TimesKept.{time_at}
use Rattle.std.proofs.lemmas.List.{length-map}

-- a frame of the bus is in range
pub frame_in_range : (frames : List BusFrame) (number : ℕ) → AreBusFrames frames → number < length frames
    → IsInRange (bus_frame_at frames number).timed
frame_in_range frames number are inside =
    subst IsInRange (time_at frames number)
    (All-get_or IsInRange (times_of frames) number none_frame
    (omega (arith, length-map frames (λ (frame : BusFrame). frame.timed))) are.in_range)

-- what holds of the last release before, and of those of its frame before that one, holds of all before
by_last : (P : ℕ → Type 0) (run : Course) (number last : ℕ)
    → HasLast run number (release_at run number).frame last → (0 < last → P (last - 1))
    → (0 < last → (earlier : ℕ) → earlier < last - 1
    → (release_at run earlier).frame ≡ (release_at run (last - 1)).frame → P earlier)
    → (earlier : ℕ) → earlier < number
    → (release_at run earlier).frame ≡ (release_at run number).frame → P earlier
by_last P run number last it here first = λ earlier before same.
    elim (cases_lt earlier last) [
      | inr after ↦ absurd (it.none earlier after before same)
      | inl below ↦
          let some : 0 < last = omega arith in
          elim (cases_lt earlier (last - 1)) [
            | inl early ↦ first some earlier early (same ∙ sym (it.same some))
            | inr not_early ↦
                let is : last - 1 ≡ earlier = omega arith in
                subst P is (here some)
          ]
    ]

-- what the last release before says of all before
pub periodic_by_last : (frames : List BusFrame) (run : Course) (number last : ℕ)
    → ((earlier : ℕ) → earlier < number → ReleaseStands frames run earlier)
    → HasLast run number (release_at run number).frame last
    → (0 < last → (release_at run (last - 1)).arrival + (bus_frame_at frames
    (release_at run number).frame).timed.period ≤ (release_at run number).arrival)
    → IsPeriodic frames run number
periodic_by_last frames run number last stand it here =
    by_last (λ earlier. (release_at run earlier).arrival
    + (bus_frame_at frames (release_at run number).frame).timed.period ≤ (release_at run number).arrival)
    run number last it here
    (λ some earlier first same.
    let last_stands : ReleaseStands frames run (last - 1) = stand (last - 1) (omega (arith, it.within)) in
    let period : (bus_frame_at frames (release_at run (last - 1)).frame).timed.period
    ≡ (bus_frame_at frames (release_at run number).frame).timed.period =
    ap (λ n. (bus_frame_at frames n).timed.period) (it.same some) in
    omega (arith, here some, last_stands.period earlier first same))

-- what the last release before says of the order of all before
pub order_by_last : (frames : List BusFrame) (run : Course) (number last : ℕ)
    → ((earlier : ℕ) → earlier < number → ReleaseStands frames run earlier)
    → HasLast run number (release_at run number).frame last
    → (0 < last → (release_at run (last - 1)).queued ≤ (release_at run number).queued)
    → IsInOrder run number
order_by_last frames run number last stand it here =
    by_last (λ earlier. (release_at run earlier).queued ≤ (release_at run number).queued) run number last it
    here
    (λ some earlier first same.
    let last_stands : ReleaseStands frames run (last - 1) = stand (last - 1) (omega (arith, it.within)) in
    omega (arith, here some, last_stands.in_order earlier first same))

-- each rule that a release breaks, by the table, for the release as it was read
module _ (frames : List BusFrame) (run : Course) (number last : ℕ)
    (stand : (earlier : ℕ) → earlier < number → ReleaseStands frames run earlier)
    (it : HasLast run number (release_at run number).frame last) where
  -- a release, as it was read, arrives a period after the last one before
  abbrev Soon : Release → Type 0
  Soon release = 0 < last
      → (release_at run (last - 1)).arrival + (bus_frame_at frames release.frame).timed.period
      ≤ (release_at run number).arrival

  -- the release is queued no earlier than the last one before
  abbrev Ordered : Type 0
  Ordered = 0 < last → (release_at run (last - 1)).queued ≤ (release_at run number).queued

  -- a release, as it was read, is queued within its jitter
  abbrev Queued : Release → Type 0
  Queued release = IsQueued (bus_frame_at frames release.frame).timed release

  -- a release that comes too soon breaks rule 3
  pub breaks_three : (release : Release) → release ≡ release_at run number → release.frame < length frames
      → Queued release
      → (Soon release → ⊥) → ReleaseBreaks frames run number 3
  breaks_three release e there queued late =
      too_soon (omega (arith, ap (λ (r : Release). r.frame) e)) (subst Queued e queued)
      (λ periodic. late (subst Soon (sym e)
      (λ some. periodic (last - 1) (omega (arith, it.within)) (it.same some))))

  -- a release that is queued before the last one before breaks rule 4
  pub breaks_four : (release : Release) → release ≡ release_at run number → release.frame < length frames
      → Queued release
      → Soon release → (Ordered → ⊥) → ReleaseBreaks frames run number 4
  breaks_four release e there queued soon late =
      out_of_order (omega (arith, ap (λ (r : Release). r.frame) e)) (subst Queued e queued)
      (periodic_by_last frames run number last stand it (subst Soon e soon))
      (λ order. late (λ some. order (last - 1) (omega (arith, it.within)) (it.same some)))

  -- a release that breaks none of the four stands
  pub all_four : (release : Release) → release ≡ release_at run number → release.frame < length frames
      → Queued release
      → Soon release → Ordered → ReleaseStands frames run number
  all_four release e there queued soon ordered = record {
    frame_there = omega (arith, ap (λ (r : Release). r.frame) e);
    queued = subst Queued e queued;
    period = periodic_by_last frames run number last stand it (subst Soon e soon);
    in_order = order_by_last frames run number last stand it ordered;
  }

-- a release whose frame is missing breaks rule 1
pub breaks_one : (frames : List BusFrame) (run : Course) (number : ℕ) (release : Release)
    → release ≡ release_at run number
    → length frames ≤ release.frame → ReleaseBreaks frames run number 1
breaks_one frames run number release e out =
    frame_missing (λ there. omega (arith, ap (λ (r : Release). r.frame) e))

-- a release that is queued outside its jitter breaks rule 2
pub breaks_two : (frames : List BusFrame) (run : Course) (number : ℕ) (release : Release)
    → release ≡ release_at run number
    → release.frame < length frames → (IsQueued (bus_frame_at frames release.frame).timed release → ⊥)
    → ReleaseBreaks frames run number 2
breaks_two frames run number release e there not =
    queued_out (omega (arith, ap (λ (r : Release). r.frame) e))
    (λ queued. not (subst (λ (r : Release). IsQueued (bus_frame_at frames r.frame).timed r) (sym e) queued))

-- before the first release there is none
pub last_init : (run : Course) → HaveLast run 0 (replicate 128 0)
last_init run = λ frame inside.
    let none : slice_index (replicate 128 0) frame ≡ 0 = get_or-replicate 128 frame 0 0 inside in
    record {
      within = omega arith;
      same = λ some. absurd (omega arith);
      none = λ earlier after before. absurd (omega (arith, before));
    }

-- one more release changes the entry of its frame
pub last_more : (run : Course) (number frame : ℕ) (table : List ℕ) → length table ≡ 128 → frame < 128
    → (release_at run number).frame ≡ frame → HaveLast run number table
    → HaveLast run (number + 1) (slice_set table frame (number + 1))
last_more run number frame table long inside is have = λ other inside'.
    elim (cases_eq other frame) [
      | inl same ↦
          let entry : slice_index (slice_set table frame (number + 1)) other ≡ number + 1 =
          ap (λ n. get_or (set table frame (number + 1)) n 0) same
          ∙ get_or-set_same table frame (number + 1) 0 (omega arith) in
          record {
            within = omega arith;
            same = λ some. ap (λ n. (release_at run n).frame)
                (let at : slice_index (slice_set table frame (number + 1)) other - 1 ≡ number =
                omega arith in at) ∙ is ∙ sym same;
            none = λ earlier after before. absurd (omega (arith, after, before));
          }
      | inr differ ↦
          let entry : slice_index (slice_set table frame (number + 1)) other ≡ slice_index table other =
          get_or-set_other table frame other (number + 1) 0 differ in
          let it : HasLast run number other (slice_index table other) = have other inside' in
          let it' : HasLast run (number + 1) other (slice_index table other) = record {
            within = omega (arith, it.within);
            same = it.same;
            none = λ earlier after before frame_is. elim (cases_lt earlier number) [
              | inl before' ↦ it.none earlier after before' frame_is
              | inr last ↦ differ (sym frame_is
                  ∙ ap (λ n. (release_at run n).frame) (let at : earlier ≡ number =
                  omega (arith, before) in at) ∙ is)
            ];
          } in
          subst (HasLast run (number + 1) other) (sym entry) it'
    ]
