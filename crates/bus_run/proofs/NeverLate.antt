-- A frame that is shown has no late release.
use Rattle.std.proofs.Common.{◌≡◌, ℕ, ◌+◌, ◌-◌, ◌*◌, ◌<◌, ◌≤◌, zero, suc, inl, inr, true, List, [], ◌∷◌, length, get_or, take, Some, Contains, All, sum_by, count_by, sym, ap, ◌∙◌, arith, length-take, length-drop}
use Rattle.std.proofs.lemmas.List.{get_or-take, get_or-drop, get_or_default}
use Rattle.std.proofs.lemmas.Bool.{cases_lt, ltb-true}
use Rattle.std.proofs.lemmas.Grind.{div_ceil_times}
use Rattle.std.proofs.lemmas.List.Elements.{All-get_or}
use Rattle.std.proofs.lemmas.List.Sums.{sum_by_more}
use Rattle.std.proofs.Math.Nat.{mul-le-mul_right}
use Rattle.busy_period.proofs.Growth.{ticks-le-blocking}
use Rattle.busy_period.specs.declared.timed.Timed.{Timed}
use Rattle.busy_period.specs.Timed.{IsInRange, none_frame, frame_at}
use Rattle.busy_period.specs.Stage.{own_number, own_of, higher_of, lower_of}
use Rattle.busy_period.specs.Demand.{instances_of, asks_of, work_of, blocking_of, demand_of}
use Rattle.busy_period.proofs.Stages.{work-own}
use Rattle.response_test.specs.Queueing.{IsBit, queueing_of}
use Rattle.response_test.specs.Frame.{IsShown}
use Rattle.bus_run.specs.Run.{Course, release_at, send_at, carried_by, end_at}
use Rattle.bus_run.specs.Rules.{IsQueued}
use Rattle.bus_run.proofs.KeepsTime.{LastsWithin, KeepsTime}
use Rattle.bus_run.specs.Late.{Misses, IsByNumber}
use Rattle.bus_run.proofs.Numbers.{sum_by-le_within, sum_by-less_within}
use Rattle.bus_run.proofs.Spans.{Span, span_at, IsIn, Blocks, is_lower, charged, spans_fill}
use Rattle.bus_run.proofs.RunLaws.{Pending, Owing, IsClear, Begun, walk_back, finished_later, started_decided, in_use, none_lower}
use Rattle.bus_run.proofs.WorkLaws.{span_of, spans_of, span_is, spans_count, none_uncharged, counts, spans_apart, in_span, charged-le, level_work, level_work_less, before_unstarted, before_release}

-- the frames up to a place of an order by numbers
level_inside : (times : List Timed) (order : List ℕ) (place : ℕ) → IsByNumber (length times) order place
    → own_number order place ≡ place
level_inside times order place it = it.each place it.inside

-- the levels up to the own one are in the front of the order
levels_hold : (times : List Timed) (order : List ℕ) (place i : ℕ) → IsByNumber (length times) order place
    → i ≤ own_number order place
    → Contains (take (place + 1) order) i
levels_hold times order place i it le =
    let own : own_number order place ≡ place = level_inside times order place it in
    let inside : i < length order = omega (arith, it.inside) in (
      i,
      omega (arith, length-take (place + 1) order, it.inside),
      get_or-take (place + 1) order i i (omega arith) ∙ get_or_default order i i 0 inside ∙ it.each i inside,
    )

-- a member of the first numbers is below
in_take : (times : List Timed) (order : List ℕ) (place n z : ℕ) → IsByNumber (length times) order place
    → Contains (take n order) z → (z < n) × (z < length order)
in_take times order place n z it (k, below, is) =
    let few : k < n = omega (arith, length-take n order) in
    let inside : k < length order = omega (arith, length-take n order) in
    let same : z ≡ k = sym is ∙ get_or-take n order k z few ∙ get_or_default order k z 0 inside
    ∙ it.each k inside in
    (omega arith, omega arith)

-- each frame of a greater number is among the lower ones of the order
lower_holds : (times : List Timed) (order : List ℕ) (place i : ℕ) → IsByNumber (length times) order place
    → own_number order place < i
    → i < length times → Contains (lower_of order place) i
lower_holds times order place i it above below =
    let own : own_number order place ≡ place = level_inside times order place it in
    let inside : i < length order = omega (arith, it.all) in
    let at : place + 1 + (i - (place + 1)) ≡ i = omega arith in (
      i - (place + 1),
      omega (arith, length-drop (place + 1) order),
      get_or-drop (place + 1) order (i - (place + 1)) i ∙ ap (λ n. get_or order n i) at
          ∙ get_or_default order i i 0 inside ∙ it.each i inside,
    )

-- a frame of the run's is in range, and no shorter than a bit
in_range : (times : List Timed) (i : ℕ) → All IsInRange times → i < length times
    → IsInRange (frame_at times i)
in_range times i ranges inside = All-get_or IsInRange times i none_frame inside ranges

-- a bit is no longer than a frame
bit-le : (times : List Timed) (bit i : ℕ) → IsBit times bit → i < length times
    → bit ≤ (frame_at times i).ticks
bit-le times bit i is_bit inside =
    All-get_or (λ frame. bit ≤ frame.ticks) times i none_frame inside is_bit.within

module _ (times : List Timed) (bit : ℕ) (run : Course) (stands : KeepsTime times bit run) (order : List ℕ)
    (place : ℕ)
    (ranges : All IsInRange times) (is_bit : IsBit times bit)
    (by_number : IsByNumber (length times) order place) where
  -- Where something of the levels is pending from one moment to another, and the bus is in use for a while
  -- after, by a send that starts by then, the time is at most the blocking and the work that is charged to
  -- the levels.
  window_bound : (from to by : ℕ) (work : ℕ → ℕ) → by < run.until
      → ((moment : ℕ) → from ≤ moment → moment ≤ by → Pending run (own_number order place) moment)
      → ((moment : ℕ) → by < moment → moment < to → IsIn (spans_of run) by moment)
      → ((level : ℕ) → Contains (take (place + 1) order) level
      → charged from by (spans_of run) level ≤ work level)
      → to ≤ from + (blocking_of times (lower_of order place) + sum_by work (take (place + 1) order))
  window_bound from to by work before pending beyond each =
      let level : ℕ = own_number order place in
      let blocks : Blocks level from by (blocking_of times (lower_of order place)) (spans_of run) = record {
        early = λ k inside lower ends started.
            let there : k < length run.sends = omega (arith, spans_count run) in
            let is : span_at (spans_of run) k ≡ span_of run (send_at run k) = span_is run k there in
            let lower' : is_lower level (Some (carried_by run k).frame) ≡ true =
            sym (ap (λ (s : Span). is_lower level s.charge) is) ∙ lower in
            let below : level < (carried_by run k).frame = ltb-true level (carried_by run k).frame lower' in
            let start : (span_at (spans_of run) k).start ≡ (send_at run k).start =
            ap (λ (s : Span). s.start) is in
            elim (cases_lt (span_at (spans_of run) k).start from) [
              | inl early ↦ early
              | inr later ↦
                  let level' : (carried_by run k).frame ≤ level =
                  none_lower times bit run stands level k there
                  (pending (send_at run k).start (omega arith) (omega arith)) in
                  absurd (omega arith)
            ];
        short = λ k inside lower.
            let there : k < length run.sends = omega (arith, spans_count run) in
            let is : span_at (spans_of run) k ≡ span_of run (send_at run k) = span_is run k there in
            let lower' : is_lower level (Some (carried_by run k).frame) ≡ true =
            sym (ap (λ (s : Span). is_lower level s.charge) is) ∙ lower in
            let below : level < (carried_by run k).frame = ltb-true level (carried_by run k).frame lower' in
            let lasts : LastsWithin (frame_at times (carried_by run k).frame) bit (send_at run k).ticks =
            stands.lasts k there in
            let named : (carried_by run k).frame < length times =
            stands.frame_there (send_at run k).release (stands.takes_first k there).unsent.there in
            let most : (frame_at times (carried_by run k).frame).ticks
            ≤ blocking_of times (lower_of order place) =
            ticks-le-blocking times (lower_of order place) (carried_by run k).frame
            (lower_holds times order place (carried_by run k).frame by_number below named) in
            omega (arith, ap (λ (s : Span). s.start) is, ap (λ (s : Span). s.stop) is, lasts.most);
      } in
      let busy : (moment : ℕ) → from ≤ moment → moment < to → IsIn (spans_of run) by moment =
      λ moment after within. elim (cases_lt by moment) [
        | inl past ↦ beyond moment past within
        | inr not_past ↦
            let in_send : (j : ℕ) × (j < length run.sends) × ((send_at run j).start ≤ moment)
            × (moment < end_at run j) =
            in_use times bit run stands level moment (pending moment after not_past) (omega arith) in
            in_span times bit run stands in_send.0 by moment in_send.1 (omega (arith, in_send.2)) in_send.2
            in_send.3
      ] in
      let filled : to ≤ from + (blocking_of times (lower_of order place) + 0 + sum_by work
      (take (place + 1) order)) =
      spans_fill (take (place + 1) order) level from to by (blocking_of times (lower_of order place)) 0 work
      (spans_of run)
      (λ i le. levels_hold times order place i by_number le)
      (record {
        apart = spans_apart times bit run stands;
        none_lower = blocks;
        in_use = busy;
        level_ticks = each;
        other_ticks = omega (arith, none_uncharged run from by run.sends);
      }) in
      omega arith

  -- each level's work within a time
  each_work : (from by time : ℕ) → IsClear run (own_number order place) from → by + bit ≤ from + time
      → (n : ℕ) → n ≤ place + 1 → (z : ℕ)
      → Contains (take n order) z → charged from by (spans_of run) z ≤ asks_of (frame_at times z) time
  each_work from by time clear within n le z in' =
      let below : (z < n) × (z < length order) = in_take times order place n z by_number in' in
      let own : own_number order place ≡ place = level_inside times order place by_number in
      let range : IsInRange (frame_at times z) =
      in_range times z ranges (omega (arith, below.1, by_number.all)) in
      level_work times bit run stands (own_number order place) from by time z clear (omega (arith, below.0))
      range.some_period within

  -- The number of the instance: fewer of its frame are queued before it, since the window began, than in a
  -- busy time.
  few_before : (busy number from : ℕ) → demand_of times order place busy ≤ busy → 1 ≤ busy
      → number < length run.releases → (release_at run number).frame ≡ own_number order place
      → IsClear run (own_number order place) from → from ≤ (release_at run number).queued
      → (release_at run number).queued < run.until
      → ((moment : ℕ) → from < moment → moment ≤ (release_at run number).queued
      → Owing run (own_number order place) moment)
      → (count : ℕ) → from + count * (own_of times order place).period
      ≤ (release_at run number).arrival + (own_of times order place).jitter
      → count < instances_of (own_of times order place) busy
  few_before busy number from fits some there is clear after before owing count spread =
      let own : Timed = own_of times order place in
      let level : ℕ = own_number order place in
      let level_is : level ≡ place = level_inside times order place by_number in
      let range : IsInRange own =
      in_range times level ranges (omega (arith, by_number.all, by_number.inside)) in
      let long : bit ≤ own.ticks =
      bit-le times bit level is_bit (omega (arith, by_number.all, by_number.inside)) in
      let up : busy + own.jitter ≤ instances_of own busy * own.period =
      (div_ceil_times (busy + own.jitter) own.period range.some_period).0 in
      let one : 1 ≤ instances_of own busy = elim (cases_lt 0 (instances_of own busy)) [
        | inl some' ↦ some'
        | inr none ↦ absurd (omega (arith, mul-le-mul_right own.period none))
      ] in
      let sent : 1 * own.ticks ≤ instances_of own busy * own.ticks = mul-le-mul_right own.ticks one in
      let bit_fits : bit ≤ busy = omega arith in
      elim (cases_lt count (instances_of own busy)) [
        | inl less ↦ less
        | inr many ↦
            let periods : instances_of own busy * own.period ≤ count * own.period =
            mul-le-mul_right own.period many in
            let queued : IsQueued (frame_at times (release_at run number).frame) (release_at run number) =
            stands.queued number there in
            let late : from + busy ≤ (release_at run number).queued = omega (arith, queued.after) in
            absurd (ends busy number from fits bit_fits clear before late owing
            (owing (from + busy) (omega arith) late))
      ]
    where
      ends : (busy number from : ℕ) → demand_of times order place busy ≤ busy → bit ≤ busy
          → IsClear run (own_number order place) from
          → (release_at run number).queued < run.until
          → from + busy ≤ (release_at run number).queued
          → ((moment : ℕ) → from < moment → moment ≤ (release_at run number).queued
          → Owing run (own_number order place) moment)
          → Owing run (own_number order place) (from + busy) → ⊥
      ends busy number from fits bit_fits clear before late owing it =
          let level : ℕ = own_number order place in
          let by : ℕ = from + busy - bit in
          let levels : List ℕ = take (place + 1) order in
          let r : ℕ = it.release in
          let f : ℕ = (release_at run r).frame in
          let named : f < length times = stands.frame_there r it.there in
          let range : IsInRange (frame_at times f) = in_range times f ranges named in
          let long : bit ≤ (frame_at times f).ticks = bit-le times bit f is_bit named in
          let some_bit : 1 ≤ bit = is_bit.some in
          let whole : work_of times levels busy
          ≡ work_of times (higher_of order place) busy + asks_of (own_of times order place) busy =
          work-own times order place busy by_number.inside in
          let after : from ≤ (release_at run r).queued = elim (cases_lt (release_at run r).queued from) [
            | inr later ↦ later
            | inl earlier ↦ absurd
                (it.undone (finished_later run r from (from + busy) (omega arith)
                (clear r it.there it.level earlier)))
          ] in
          let pending : (moment : ℕ) → from ≤ moment → moment ≤ by → Pending run level moment =
          λ moment after' by'.
          let o : Owing run level (moment + 1) = owing (moment + 1) (omega arith) (omega arith) in
          record {
            release = o.release;
            there = o.there;
            level = o.level;
            queued = omega (arith, o.queued);
            undone = λ done. o.undone (finished_later run o.release moment (moment + 1) (omega arith) done);
          } in
          let each : (z : ℕ) → Contains levels z
          → charged from by (spans_of run) z ≤ asks_of (frame_at times z) busy =
          each_work from by busy clear (omega arith) (place + 1) (omega arith) in
          elim (started_decided run r by) [
            | inl started ↦
                let j : ℕ = started.number in
                let undone : from + busy < end_at run j = elim (cases_lt (from + busy) (end_at run j)) [
                  | inl later ↦ later
                  | inr done ↦ absurd (it.undone
                      (record { number = j; there = started.there; carries = started.carries; ended = done }))
                ] in
                let bound : end_at run j
                ≤ from + (blocking_of times (lower_of order place) + work_of times levels busy) =
                window_bound from (end_at run j) by (λ i. asks_of (frame_at times i) busy)
                (omega arith) pending
                (λ moment past within.
                in_span times bit run stands j by moment started.there started.started
                (omega (arith, started.started)) within) each in
                omega arith
            | inr not_started ↦
                let bound : by + 1 ≤ from + (blocking_of times (lower_of order place) + sum_by
                (charged from by (spans_of run)) levels) =
                window_bound from (by + 1) by (charged from by (spans_of run)) (omega arith) pending
                (λ moment past within. absurd (omega arith)) (λ level _. omega arith) in
                let less : charged from by (spans_of run) f + (frame_at times f).ticks
                ≤ asks_of (frame_at times f) busy =
                level_work_less times bit run stands level from by busy r clear it.there it.level
                range.some_period after it.queued not_started in
                let work : sum_by (charged from by (spans_of run)) levels + (frame_at times f).ticks
                ≤ work_of times levels busy =
                sum_by-less_within (charged from by (spans_of run)) (λ i. asks_of (frame_at times i) busy)
                (frame_at times f).ticks f levels each
                (levels_hold times order place f by_number it.level) less in
                omega arith
          ]

  -- No release of a frame that is shown is late.
  pub never_late : (busy : ℕ) (starts : List ℕ) (number : ℕ) → IsShown times order place bit busy starts
      → (release_at run number).frame ≡ place
      → Misses run number ((release_at run number).arrival + (frame_at times
      (release_at run number).frame).deadline) → ⊥
  never_late busy starts number shown is late =
      let level : ℕ = own_number order place in
      let own : Timed = own_of times order place in
      let level_is : level ≡ place = level_inside times order place by_number in
      let frame_is : (release_at run number).frame ≡ level = is ∙ sym level_is in
      let times_are : frame_at times (release_at run number).frame ≡ own = ap (frame_at times) frame_is in
      let range : IsInRange own =
      in_range times level ranges (omega (arith, by_number.all, by_number.inside)) in
      let queued : IsQueued (frame_at times (release_at run number).frame) (release_at run number) =
      stands.queued number late.there in
      let jitter : (frame_at times (release_at run number).frame).jitter ≡ own.jitter =
      ap (λ (t : Timed). t.jitter) times_are in
      let period : (frame_at times (release_at run number).frame).period ≡ own.period =
      ap (λ (t : Timed). t.period) times_are in
      let ticks : (frame_at times (release_at run number).frame).ticks ≡ own.ticks =
      ap (λ (t : Timed). t.ticks) times_are in
      let deadline : (frame_at times (release_at run number).frame).deadline ≡ own.deadline =
      ap (λ (t : Timed). t.deadline) times_are in
      let begun : Begun run level (release_at run number).queued =
      walk_back run level (release_at run number).queued (release_at run number).queued (omega arith) in
      let from : ℕ = begun.time in
      let up : busy + own.jitter ≤ instances_of own busy * own.period =
      (div_ceil_times (busy + own.jitter) own.period range.some_period).0 in
      let some : 1 ≤ busy = shown.holds.busy.some in
      let one : 0 < length starts = elim (cases_lt 0 (length starts)) [
        | inl some' ↦ some'
        | inr none ↦
            let none' : instances_of own busy ≤ 0 = omega (arith, shown.count) in
            absurd (omega (arith, mul-le-mul_right own.period none'))
      ] in
      let first : own.jitter + get_or starts 0 0 + own.ticks ≤ own.deadline + 0 * own.period =
      shown.in_time 0 one in
      let before : (release_at run number).queued < run.until =
      omega (arith, late.judged, queued.within, range.some_ticks) in
      let many : ℕ = count_by (counts run from run.until (release_at run number).frame number) run.sends in
      let spread : from + many * (frame_at times (release_at run number).frame).period
      ≤ (release_at run number).arrival + (frame_at times (release_at run number).frame).jitter =
      before_release times bit run stands level from run.until number begun.clear late.there (omega arith)
      begun.before in
      let spread' : from + many * own.period ≤ (release_at run number).arrival + own.jitter =
      omega (arith, ap (λ n. many * n) period) in
      let few : many < instances_of own busy =
      few_before busy number from shown.holds.busy.done some late.there frame_is begun.clear begun.before
      before begun.owing many spread' in
      let inside : many < length starts = omega (arith, shown.count) in
      let w : ℕ = get_or starts many 0 in
      let can_start : queueing_of times order place bit many w ≤ w = shown.can_start many inside in
      let in_time : own.jitter + w + own.ticks ≤ own.deadline + many * own.period =
      shown.in_time many inside in
      let by : ℕ = from + w in
      let by_due : by + own.ticks
      ≤ (release_at run number).arrival + (frame_at times (release_at run number).frame).deadline =
      omega arith in
      elim (started_decided run number by) [
        | inl started ↦
            let j : ℕ = started.number in
            let lasts : LastsWithin (frame_at times (carried_by run j).frame) bit (send_at run j).ticks =
            stands.lasts j started.there in
            let same : (frame_at times (carried_by run j).frame).ticks
            ≡ (frame_at times (release_at run number).frame).ticks =
            ap (λ n. (frame_at times (release_at run n).frame).ticks) started.carries in
            late.missed j
            (record {
              there = started.there;
              carries = started.carries;
              ended = omega (arith, started.started, lasts.most);
            })
        | inr not_started ↦
            let pending : (moment : ℕ) → from ≤ moment → moment ≤ by → Pending run level moment =
            λ moment after by'.
            elim (cases_lt moment (release_at run number).queued) [
              | inl early ↦
                  let o : Owing run level (moment + 1) =
                  begun.owing (moment + 1) (omega arith) (omega arith) in
                  record {
                    release = o.release;
                    there = o.there;
                    level = o.level;
                    queued = omega (arith, o.queued);
                    undone = λ done. o.undone
                        (finished_later run o.release moment (moment + 1) (omega arith) done);
                  }
              | inr later ↦ record {
                release = number;
                there = late.there;
                level = omega arith;
                queued = later;
                undone = λ done. not_started (record {
                  number = done.number;
                  there = done.there;
                  carries = done.carries;
                  started = omega (arith, done.ended);
                });
              }
            ] in
            let bound : by + 1 ≤ from + (blocking_of times (lower_of order place) + sum_by
            (charged from by (spans_of run)) (take (place + 1) order)) =
            window_bound from (by + 1) by (charged from by (spans_of run))
            (omega (arith, late.judged, range.some_ticks)) pending
            (λ moment past within. absurd (omega arith)) (λ level _. omega arith) in
            let split : sum_by (charged from by (spans_of run)) (take (place + 1) order)
            ≡ sum_by (charged from by (spans_of run)) (take place order) + charged from by (spans_of run)
            level =
            sum_by_more (charged from by (spans_of run)) order place 0 by_number.inside in
            let higher : sum_by (charged from by (spans_of run)) (take place order)
            ≤ work_of times (higher_of order place) (w + bit) =
            sum_by-le_within (charged from by (spans_of run)) (λ i. asks_of (frame_at times i) (w + bit))
            (take place order)
            (each_work from by (w + bit) begun.clear (omega arith) place (omega arith)) in
            let own_charge : charged from by (spans_of run) (release_at run number).frame
            ≤ many * (frame_at times (release_at run number).frame).ticks =
            charged-le times bit run stands from by run.until (release_at run number).frame number
            (omega (arith, late.judged))
            (λ j inside' same ends started. before_unstarted times bit run stands by number j late.there
            not_started inside' same started) in
            let own_charge' : charged from by (spans_of run) level ≤ many * own.ticks =
            omega (arith, ap (charged from by (spans_of run)) frame_is, ap (λ n. many * n) ticks) in
            absurd (omega arith)
      ]
