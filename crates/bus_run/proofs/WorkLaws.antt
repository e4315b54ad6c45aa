-- The spans of a run, and the work that they are charged with.
use Rattle.std.proofs.Common.{◌≡◌, ℕ, ◌+◌, ◌-◌, ◌*◌, ◌<◌, ◌≤◌, suc, inl, inr, Bool, true, ◌&&◌, cond, List, [], ◌∷◌, length, map, get_or, Some, sum_by, count_by, ltb, leb, eqb, refl, sym, ap, ◌∙◌, arith}
use Rattle.std.proofs.lemmas.List.{length-map, get_or-map}
use Rattle.std.proofs.lemmas.Bool.{cases_lt, and_parts, eqb-true, eq-eqb, ltb-true, lt-ltb, leb-true, le-leb}
use Rattle.std.proofs.lemmas.List.Sums.{sum_by-cons}
use Rattle.std.proofs.Math.Nat.{mul-le-mul_right}
use Rattle.busy_period.specs.declared.timed.Timed.{Timed}
use Rattle.busy_period.specs.Timed.{frame_at}
use Rattle.busy_period.specs.Demand.{instances_of, asks_of}
use Rattle.bus_run.specs.declared.run.Sent.{Sent}
use Rattle.bus_run.specs.Run.{Course, none_sent, release_at, send_at, carried_by, end_at, IsUnsent}
use Rattle.bus_run.specs.Rules.{IsQueued}
use Rattle.bus_run.proofs.KeepsTime.{LastsWithin, KeepsTime}
use Rattle.bus_run.proofs.Numbers.{spread_fits, count-le_quotient}
use Rattle.bus_run.proofs.Spans.{Span, none_span, span_at, AreApart, IsIn, is_charged, is_free, sorted, sorted_part, charged, brings}
use Rattle.bus_run.proofs.RunLaws.{Started, Finished, IsClear, sends_apart, sends_in_order, sent_once}

-- the frame of a send
abbrev pub frame_of : Course → Sent → ℕ
frame_of run send = (release_at run send.release).frame

-- the span of a send, which is charged to its frame
abbrev pub span_of : Course → Sent → Span
span_of run send = record {
  start = send.start;
  stop = send.start + send.ticks;
  charge = Some (frame_of run send);
}

-- the spans of the sends of a run
abbrev pub spans_of : Course → List Span
spans_of run = map (span_of run) run.sends

-- the span at a number is that of the send there
pub span_is : (run : Course) (j : ℕ) → j < length run.sends
    → span_at (spans_of run) j ≡ span_of run (send_at run j)
span_is run j inside = get_or-map (span_of run) run.sends j none_sent none_span inside

-- there are as many spans as sends
pub spans_count : (run : Course) → length (spans_of run) ≡ length run.sends
spans_count run = length-map run.sends (span_of run)

-- nothing is charged to none
pub none_uncharged : (run : Course) (from by : ℕ) (sends : List Sent)
    → sorted is_free from by (map (span_of run) sends) ≡ 0
none_uncharged run from by [] = refl
none_uncharged run from by (send ∷ sends) =
    omega (
      arith,
      sum_by-cons (sorted_part is_free from by) (span_of run send) (map (span_of run) sends),
      none_uncharged run from by sends,
    )

-- a send of a frame that ends after one time, starts by another, and carries a release before one
abbrev pub counts : Course → ℕ → ℕ → ℕ → ℕ → Sent → Bool
counts run from by number limit send =
    eqb (frame_of run send) number &&
    (ltb from (send.start + send.ticks) && (leb send.start by && ltb send.release limit))

-- the same as a fact
pub record Counts (run : Course) (from by number limit : ℕ) (send : Sent) : Type 0 where
  pub frame : frame_of run send ≡ number
  pub after : from < send.start + send.ticks
  pub started : send.start ≤ by
  pub before : send.release < limit

-- two tests that pass pass together
both : (a b : Bool) → a ≡ true → b ≡ true → (a && b) ≡ true
both a b e e' = ap (λ x. x && b) e ∙ e'

-- what the test says
pub counts_from : (run : Course) (from by number limit : ℕ) (send : Sent)
    → counts run from by number limit send ≡ true → Counts run from by number limit send
counts_from run from by number limit send it =
    let first = and_parts (eqb (frame_of run send) number)
    (ltb from (send.start + send.ticks) && (leb send.start by && ltb send.release limit)) it in
    let second = and_parts (ltb from (send.start + send.ticks)) (leb send.start by && ltb send.release limit)
    first.1 in
    let third = and_parts (leb send.start by) (ltb send.release limit) second.1 in
    record {
      frame = eqb-true (frame_of run send) number first.0;
      after = ltb-true from (send.start + send.ticks) second.0;
      started = leb-true send.start by third.0;
      before = ltb-true send.release limit third.1;
    }

-- and the other way round
pub counts_to : (run : Course) (from by number limit : ℕ) (send : Sent) → Counts run from by number limit send
    → counts run from by number limit send ≡ true
counts_to run from by number limit send it =
    both _ _ (eq-eqb (frame_of run send) number it.frame)
    (both _ _ (lt-ltb from (send.start + send.ticks) it.after)
    (both _ _ (le-leb send.start by it.started) (lt-ltb send.release limit it.before)))

-- each send of a frame in a window brings at most the frame's ticks
charged-le_list : (run : Course) (from by number ticks : ℕ) (test : Sent → Bool) (sends : List Sent)
    → ((k : ℕ) → k < length sends → frame_of run (get_or sends k none_sent) ≡ number
    → from < (get_or sends k none_sent).start + (get_or sends k none_sent).ticks
    → (get_or sends k none_sent).start ≤ by
    → (test (get_or sends k none_sent) ≡ true) × ((get_or sends k none_sent).ticks ≤ ticks))
    → sorted (is_charged number) from by (map (span_of run) sends) ≤ count_by test sends * ticks
charged-le_list run from by number ticks test [] each = omega arith
charged-le_list run from by number ticks test (send ∷ sends) each =
    let f : Span → ℕ = sorted_part (is_charged number) from by in
    let rest : sum_by f (map (span_of run) sends) ≤ count_by test sends * ticks =
    charged-le_list run from by number ticks test sends (λ k inside. each (suc k) (omega arith)) in
    let whole : sum_by f (span_of run send ∷ map (span_of run) sends)
    ≡ f (span_of run send) + sum_by f (map (span_of run) sends) =
    sum_by-cons f (span_of run send) (map (span_of run) sends) in
    let counted : count_by test (send ∷ sends) ≡ cond (test send) 1 0 + count_by test sends =
    sum_by-cons (λ y. cond (test y) 1 0) send sends in
    let product : count_by test (send ∷ sends) * ticks
    ≡ (cond (test send) 1 0 + count_by test sends) * ticks = ap (λ n. n * ticks) counted in
    elim (brings (is_charged number) from by (span_of run send)) [
      | inl none ↦ omega arith
      | inr (same, after, started, is) ↦
          let here : (test send ≡ true) × (send.ticks ≤ ticks) =
          each 0 (omega arith) (sym (eqb-true number (frame_of run send) same)) after started in
          let one : cond {A = ℕ} (test send) 1 0 ≡ 1 = ap (λ (b : Bool). cond {A = ℕ} b 1 0) here.0 in
          let product' : (cond (test send) 1 0 + count_by test sends) * ticks
          ≡ (1 + count_by test sends) * ticks =
          ap (λ n. (n + count_by test sends) * ticks) one in
          omega (arith, here.1)
    ]

module _ (times : List Timed) (bit : ℕ) (run : Course) (stands : KeepsTime times bit run) where
  -- the spans of a run lie apart
  pub spans_apart : AreApart (spans_of run)
  spans_apart = record {
    forward = λ k inside.
        let there : k < length run.sends = omega (arith, spans_count run) in
        let is : span_at (spans_of run) k ≡ span_of run (send_at run k) = span_is run k there in
        omega (arith, ap (λ (s : Span). s.start) is, ap (λ (s : Span). s.stop) is);
    apart = λ i k lt inside.
        let there : k < length run.sends = omega (arith, spans_count run) in
        let there' : i < length run.sends = omega arith in
        omega (
          arith,
          ap (λ (s : Span). s.stop) (span_is run i there'),
          ap (λ (s : Span). s.start) (span_is run k there),
          sends_apart times bit run stands i k lt there,
        );
  }

  -- a moment in a send is in its span
  pub in_span : (j by moment : ℕ) → j < length run.sends → (send_at run j).start ≤ by
      → (send_at run j).start ≤ moment → moment < end_at run j
      → IsIn (spans_of run) by moment
  in_span j by moment inside started after before =
      let is : span_at (spans_of run) j ≡ span_of run (send_at run j) = span_is run j inside in
      record {
        number = j;
        there = omega (arith, spans_count run);
        started = omega (arith, ap (λ (s : Span). s.start) is);
        after = omega (arith, ap (λ (s : Span). s.start) is);
        before = omega (arith, ap (λ (s : Span). s.stop) is);
      }

  -- what ends after a clear moment was queued from it on
  pub queued_after : (level from j : ℕ) → IsClear run level from → j < length run.sends
      → (carried_by run j).frame ≤ level
      → from < end_at run j → from ≤ (carried_by run j).queued
  queued_after level from j clear inside is_level after =
      let unsent : IsUnsent run j (send_at run j).release = (stands.takes_first j inside).unsent in
      elim (cases_lt (carried_by run j).queued from) [
        | inr later ↦ later
        | inl earlier ↦
            let done : Finished run (send_at run j).release from =
            clear (send_at run j).release unsent.there is_level earlier in
            let same : done.number ≡ j =
            sent_once times bit run stands done.number j done.there inside done.carries in
            let end : end_at run done.number ≡ end_at run j = ap (end_at run) same in
            absurd (omega (arith, done.ended))
      ]

  -- what a frame's window counts is spread
  pub counted : (level from by number limit high : ℕ) → IsClear run level from → number ≤ level → from ≤ high
      → ((j : ℕ) → j < length run.sends → Counts run from by number limit (send_at run j)
      → (carried_by run j).arrival + (frame_at times number).jitter + (frame_at times number).period ≤ high)
      → from + count_by (counts run from by number limit) run.sends * (frame_at times number).period ≤ high
  counted level from by number limit high clear is_level le below =
      let frame : Timed = frame_at times number in
      let key : Sent → ℕ = λ send. (release_at run send.release).arrival + frame.jitter in
      spread_fits (counts run from by number limit) key from high frame.period run.sends none_sent (record {
        from = le;
        above = λ j inside passes.
            let it : Counts run from by number limit (send_at run j) =
            counts_from run from by number limit (send_at run j) passes in
            let unsent : IsUnsent run j (send_at run j).release = (stands.takes_first j inside).unsent in
            let later : from ≤ (carried_by run j).queued =
            queued_after level from j clear inside (omega (arith, it.frame)) it.after in
            let queued : IsQueued (frame_at times (carried_by run j).frame) (carried_by run j) =
            stands.queued (send_at run j).release unsent.there in
            let jitter : (frame_at times (carried_by run j).frame).jitter ≡ frame.jitter =
            ap (λ n. (frame_at times n).jitter) it.frame in
            omega (arith, queued.within);
        below =
            λ j inside passes. below j inside (counts_from run from by number limit (send_at run j) passes);
        apart = λ i j lt inside passes passes'.
            let it : Counts run from by number limit (send_at run i) =
            counts_from run from by number limit (send_at run i) passes in
            let it' : Counts run from by number limit (send_at run j) =
            counts_from run from by number limit (send_at run j) passes' in
            let unsent : IsUnsent run j (send_at run j).release = (stands.takes_first j inside).unsent in
            let same : (carried_by run i).frame ≡ (carried_by run j).frame = it.frame ∙ sym it'.frame in
            let order : (send_at run i).release < (send_at run j).release =
            sends_in_order times bit run stands i j lt inside same in
            let period : (frame_at times (carried_by run j).frame).period ≡ frame.period =
            ap (λ n. (frame_at times n).period) it'.frame in
            omega (
              arith,
              stands.period (send_at run i).release (send_at run j).release order unsent.there same,
            );
      })

  -- what is charged to a frame is at most its ticks for each that counts
  pub charged-le : (from by by' number limit : ℕ) → by ≤ by'
      → ((j : ℕ) → j < length run.sends → (carried_by run j).frame ≡ number → from < end_at run j
      → (send_at run j).start ≤ by
      → (send_at run j).release < limit)
      → charged from by (spans_of run) number
      ≤ count_by (counts run from by' number limit) run.sends * (frame_at times number).ticks
  charged-le from by by' number limit le below =
      charged-le_list run from by number (frame_at times number).ticks (counts run from by' number limit)
      run.sends (λ j inside frame after started.
      let lasts : LastsWithin (frame_at times (carried_by run j).frame) bit (send_at run j).ticks =
      stands.lasts j inside in
      let ticks : (frame_at times (carried_by run j).frame).ticks ≡ (frame_at times number).ticks =
      ap (λ n. (frame_at times n).ticks) frame in (
        counts_to run from by' number limit (send_at run j)
            (record {
              frame = frame;
              after = after;
              started = omega arith;
              before = below j inside frame after started;
            }),
        omega (arith, lasts.most),
      ))

  -- a frame asks for no more than its instances that may be queued until a bit after the window
  pub level_work : (level from by time number : ℕ) → IsClear run level from → number ≤ level
      → 1 ≤ (frame_at times number).period
      → by + bit ≤ from + time
      → charged from by (spans_of run) number ≤ asks_of (frame_at times number) time
  level_work level from by time number clear is_level some within =
      let frame : Timed = frame_at times number in
      let many : ℕ = count_by (counts run from by number (length run.releases)) run.sends in
      let fits : from + many * frame.period ≤ from + time + frame.jitter + frame.period - 1 =
      counted level from by number (length run.releases) (from + time + frame.jitter + frame.period - 1) clear
      is_level (omega arith)
      (λ j inside it.
      let unsent : IsUnsent run j (send_at run j).release = (stands.takes_first j inside).unsent in
      let queued : IsQueued (frame_at times (carried_by run j).frame) (carried_by run j) =
      stands.queued (send_at run j).release unsent.there in
      omega (arith, queued.after, it.started, stands.joined j inside)) in
      let few : many ≤ instances_of frame time =
      count-le_quotient many (time + frame.jitter) frame.period some (omega arith) in
      let ticks : many * frame.ticks ≤ instances_of frame time * frame.ticks =
      mul-le-mul_right frame.ticks few in
      let charge : charged from by (spans_of run) number ≤ many * frame.ticks =
      charged-le from by by number (length run.releases) (omega arith)
      (λ j inside frame after started. (stands.takes_first j inside).unsent.there) in
      omega arith

  -- what a frame sends while one of its releases has not started comes before that release
  pub before_unstarted : (by release j : ℕ) → release < length run.releases → (¬ Started run release by)
      → j < length run.sends
      → (carried_by run j).frame ≡ (release_at run release).frame → (send_at run j).start ≤ by
      → (send_at run j).release < release
  before_unstarted by release j there not_started inside same started =
      let unsent : IsUnsent run j release = record {
        there = there;
        unsent = λ i below carries. not_started (record {
          number = i;
          there = omega (arith, below);
          carries = carries;
          started = omega (arith, sends_apart times bit run stands i j below inside);
        });
      } in
      let first : (send_at run j).release ≤ release =
      (stands.takes_first j inside).first release unsent (sym same) in
      elim (cases_lt (send_at run j).release release) [
        | inl less ↦ less
        | inr not_less ↦ absurd
            (not_started (record { number = j; there = inside; carries = omega arith; started = started }))
      ]

  -- a release's frame is counted up to a whole number of periods before it
  pub before_release : (level from by release : ℕ) → IsClear run level from → release < length run.releases
      → (release_at run release).frame ≤ level → from ≤ (release_at run release).queued
      → from + count_by (counts run from by (release_at run release).frame release)
      run.sends * (frame_at times (release_at run release).frame).period
      ≤ (release_at run release).arrival + (frame_at times (release_at run release).frame).jitter
  before_release level from by release clear there is_level after =
      let number : ℕ = (release_at run release).frame in
      let queued : IsQueued (frame_at times number) (release_at run release) = stands.queued release there in
      counted level from by number release ((release_at run release).arrival + (frame_at times number).jitter)
      clear is_level
      (omega (arith, queued.within))
      (λ j inside it. omega (arith, stands.period (send_at run j).release release it.before there it.frame))

  -- where one of its instances has not started, a frame asks for one sending less
  pub level_work_less : (level from by time release : ℕ) → IsClear run level from
      → release < length run.releases
      → (release_at run release).frame ≤ level → 1 ≤ (frame_at times (release_at run release).frame).period
      → from ≤ (release_at run release).queued → (release_at run release).queued < from + time
      → (¬ Started run release by)
      → charged from by (spans_of run)
      (release_at run release).frame + (frame_at times (release_at run release).frame).ticks
      ≤ asks_of (frame_at times (release_at run release).frame) time
  level_work_less level from by time release clear there is_level some after before not_started =
      let number : ℕ = (release_at run release).frame in
      let frame : Timed = frame_at times number in
      let many : ℕ = count_by (counts run from by number release) run.sends in
      let fits : from + many * frame.period ≤ (release_at run release).arrival + frame.jitter =
      before_release level from by release clear there is_level after in
      let queued : IsQueued frame (release_at run release) = stands.queued release there in
      let few : many + 1 ≤ instances_of frame time =
      count-le_quotient (many + 1) (time + frame.jitter) frame.period some (omega (arith, queued.after)) in
      let ticks : (many + 1) * frame.ticks ≤ instances_of frame time * frame.ticks =
      mul-le-mul_right frame.ticks few in
      let charge : charged from by (spans_of run) number ≤ many * frame.ticks =
      charged-le from by by number release (omega arith)
      (λ j inside same ends started. before_unstarted by release j there not_started inside same started) in
      omega arith
