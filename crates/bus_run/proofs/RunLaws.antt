-- Laws of runs that stand.
use Rattle.std.proofs.Common.{◌≡◌, ℕ, ◌+◌, ◌<◌, ◌≤◌, ◌⊎◌, zero, suc, inl, inr, List, length, sym, subst, arith}
use Rattle.std.proofs.lemmas.Bool.{cases_lt, cases_eq}
use Rattle.busy_period.specs.declared.timed.Timed.{Timed}
use Rattle.busy_period.proofs.Least.{least_below, le_decided}
use Rattle.bus_run.specs.Run.{Course, release_at, send_at, carried_by, end_at, end_before, IsUnsent}
use Rattle.bus_run.specs.Rules.{StartsInTime}
use Rattle.bus_run.proofs.KeepsTime.{KeepsTime}

-- a release is sent, and its send has ended by a moment
pub record Finished (run : Course) (release moment : ℕ) : Type 0 where
  pub number : ℕ
  pub there : number < length run.sends
  pub carries : (send_at run number).release ≡ release
  pub ended : end_at run number ≤ moment

-- a release is sent, and its send has started by a moment
pub record Started (run : Course) (release moment : ℕ) : Type 0 where
  pub number : ℕ
  pub there : number < length run.sends
  pub carries : (send_at run number).release ≡ release
  pub started : (send_at run number).start ≤ moment

-- whether a release is finished at a moment
pub finished_decided : (run : Course) (release moment : ℕ)
    → Finished run release moment ⊎ (¬ Finished run release moment)
finished_decided run release moment =
    let P : ℕ → Type 0 = λ j. ((send_at run j).release ≡ release) × (end_at run j ≤ moment) in
    let decided : (j : ℕ) → P j ⊎ (¬ P j) = λ j. elim (cases_eq (send_at run j).release release) [
      | inr other ↦ inr (λ it. other it.0)
      | inl same ↦ elim (le_decided (end_at run j) moment)
          [ inr after ↦ inr (λ it. after it.1) | inl by ↦ inl (same, by) ]
    ] in
    elim (least_below P decided (length run.sends)) [
      | inl (k, below, it) ↦ inl
          (record { number = k; there = below; carries = it.holds.0; ended = it.holds.1 })
      | inr none ↦ inr (λ it. none it.number it.there (it.carries, it.ended))
    ]

-- whether a release has started by a moment
pub started_decided : (run : Course) (release moment : ℕ)
    → Started run release moment ⊎ (¬ Started run release moment)
started_decided run release moment =
    let P : ℕ → Type 0 = λ j. ((send_at run j).release ≡ release) × ((send_at run j).start ≤ moment) in
    let decided : (j : ℕ) → P j ⊎ (¬ P j) = λ j. elim (cases_eq (send_at run j).release release) [
      | inr other ↦ inr (λ it. other it.0)
      | inl same ↦ elim (le_decided (send_at run j).start moment)
          [ inr after ↦ inr (λ it. after it.1) | inl by ↦ inl (same, by) ]
    ] in
    elim (least_below P decided (length run.sends)) [
      | inl (k, below, it) ↦ inl
          (record { number = k; there = below; carries = it.holds.0; started = it.holds.1 })
      | inr none ↦ inr (λ it. none it.number it.there (it.carries, it.started))
    ]

-- what is finished stays so
pub finished_later : (run : Course) (release moment later : ℕ) → moment ≤ later → Finished run release moment
    → Finished run release later
finished_later run release moment later le it =
    record { number = it.number; there = it.there; carries = it.carries; ended = omega (arith, it.ended) }

-- an instance of a level was queued by a moment, and is not finished at it
pub record Pending (run : Course) (place moment : ℕ) : Type 0 where
  pub release : ℕ
  pub there : release < length run.releases
  pub level : (release_at run release).frame ≤ place
  pub queued : (release_at run release).queued ≤ moment
  pub undone : ¬ Finished run release moment

-- an instance of a level was queued before a moment, and is not finished at it
pub record Owing (run : Course) (place moment : ℕ) : Type 0 where
  pub release : ℕ
  pub there : release < length run.releases
  pub level : (release_at run release).frame ≤ place
  pub queued : (release_at run release).queued < moment
  pub undone : ¬ Finished run release moment

-- all that was queued before a moment is finished at it
abbrev pub IsClear : Course → ℕ → ℕ → Type 0
IsClear run place moment =
    (release : ℕ) → release < length run.releases → (release_at run release).frame ≤ place
    → (release_at run release).queued < moment → Finished run release moment

-- The walk back: from a moment, over what is owing, to a clear moment.
pub record Begun (run : Course) (place moment : ℕ) : Type 0 where
  pub time : ℕ
  pub before : time ≤ moment
  pub clear : IsClear run place time
  pub owing : (later : ℕ) → time < later → later ≤ moment → Owing run place later

-- each moment has a clear one before it, with something owing all the while between
pub walk_back : (run : Course) (place most moment : ℕ) → moment ≤ most → Begun run place moment
walk_back run place most moment le = go most moment le
  where
    P : ℕ → ℕ → Type 0
    P moment r = ((release_at run r).frame ≤ place) × ((release_at run r).queued < moment)
        × (¬ Finished run r moment)

    decided : (moment r : ℕ) → P moment r ⊎ (¬ P moment r)
    decided moment r = elim (le_decided (release_at run r).frame place) [
      | inr lower ↦ inr (λ it. lower it.0)
      | inl level ↦ elim (le_decided ((release_at run r).queued + 1) moment) [
        | inr after ↦ inr (λ it. after (omega (arith, it.1)))
        | inl by ↦ elim (finished_decided run r moment) [
          | inl done ↦ inr (λ it. it.2 done)
          | inr undone ↦ inl (level, omega (arith, by), undone)
        ]
      ]
    ]

    stop : (moment : ℕ) → ((r : ℕ) → r < length run.releases → ¬ P moment r) → Begun run place moment
    stop moment none = record {
      time = moment;
      before = omega arith;
      clear = λ r there level queued. elim (finished_decided run r moment) [
        | inl done ↦ done
        | inr undone ↦ absurd (none r there (level, queued, undone))
      ];
      owing = λ later after by. absurd (omega (arith, after, by));
    }

    go : (most moment : ℕ) → moment ≤ most → Begun run place moment
    go zero moment le = stop moment (λ r there it. omega (arith, it.1, le))
    go (suc most) moment le =
        elim (least_below (P moment) (decided moment) (length run.releases)) [
          | inr none ↦ stop moment none
          | inl (r, there, found) ↦
              let it : P moment r = found.holds in
              let back : Begun run place (release_at run r).queued =
              go most (release_at run r).queued (omega (arith, it.1)) in
              record {
                time = back.time;
                before = omega (arith, back.before, it.1);
                clear = back.clear;
                owing = λ later after by. elim (cases_lt (release_at run r).queued later) [
                  | inr by' ↦ back.owing later after by'
                  | inl past ↦ record {
                    release = r;
                    there = there;
                    level = it.0;
                    queued = past;
                    undone = λ done. it.2 (finished_later run r later moment by done);
                  }
                ];
              }
        ]

module _ (times : List Timed) (bit : ℕ) (run : Course) (stands : KeepsTime times bit run) where
  -- a send starts when the one before has ended, or later
  pub before-le-start : (j : ℕ) → j < length run.sends → end_before run j ≤ (send_at run j).start
  before-le-start j inside = let it : StartsInTime run j =
      stands.starts j inside in omega (arith, it.starts.then)

  -- sends do not overlap
  pub sends_apart : (i j : ℕ) → i < j → j < length run.sends → end_at run i ≤ (send_at run j).start
  sends_apart i zero lt inside = absurd (omega (arith, lt))
  sends_apart i (suc j) lt inside =
      let last : end_at run j ≤ (send_at run (suc j)).start = before-le-start (suc j) inside in
      elim (cases_lt i j) [
        | inl earlier ↦ omega (arith, last, sends_apart i j earlier (omega (arith, inside)))
        | inr not_earlier ↦ subst (λ k. end_at run k ≤ (send_at run (suc j)).start) (let same : j ≡ i =
            omega arith in same) last
      ]

  -- the instances of one frame go in order
  pub sends_in_order : (i j : ℕ) → i < j → j < length run.sends
      → (carried_by run i).frame ≡ (carried_by run j).frame
      → (send_at run i).release < (send_at run j).release
  sends_in_order i j lt inside same =
      elim (cases_lt (send_at run i).release (send_at run j).release) [
        | inl less ↦ less
        | inr not_less ↦
            let taken : IsUnsent run j (send_at run j).release = (stands.takes_first j inside).unsent in
            let first : (send_at run i).release ≤ (send_at run j).release =
            (stands.takes_first i (omega (arith, inside))).first (send_at run j).release
            (record { there = taken.there; unsent = λ e below. taken.unsent e (omega (arith, below)) })
            (sym same) in
            absurd (taken.unsent i lt (omega arith))
      ]

  -- a release is sent once at most
  pub sent_once : (i j : ℕ) → i < length run.sends → j < length run.sends
      → (send_at run i).release ≡ (send_at run j).release → i ≡ j
  sent_once i j inside inside' same =
      elim (cases_lt i j) [
        | inl less ↦ absurd ((stands.takes_first j inside').unsent.unsent i less same)
        | inr not_less ↦ elim (cases_lt j i) [
          | inl more ↦ absurd ((stands.takes_first i inside).unsent.unsent j more (sym same))
          | inr not_more ↦ omega arith
        ]
      ]

  -- what is pending is unsent where all sends before have ended
  pub pending_unsent : (release moment j : ℕ) → release < length run.releases → ¬ Finished run release moment
      → j ≤ length run.sends
      → ((i : ℕ) → i < j → end_at run i ≤ moment) → IsUnsent run j release
  pending_unsent release moment j there undone inside ended = record {
    there = there;
    unsent = λ i below carries. undone
        (record { number = i; there = omega (arith, below); carries = carries; ended = ended i below });
  }

  -- the bus is not idle while something is pending
  pub in_use : (place moment : ℕ) → Pending run place moment → moment < run.until
      → (j : ℕ) × (j < length run.sends) × ((send_at run j).start ≤ moment) × (moment < end_at run j)
  in_use place moment it before =
      let P : ℕ → Type 0 = λ j. moment < end_at run j in
      let decided : (j : ℕ) → P j ⊎ (¬ P j) = λ j. le_decided (suc moment) (end_at run j) in
      elim (least_below P decided (length run.sends)) [
        | inl (j, inside, first) ↦
            let ended : (i : ℕ) → i < j → end_at run i ≤ moment =
            λ i below. elim (cases_lt moment (end_at run i)) [
              | inl later ↦ absurd (omega (arith, first.least i later, below))
              | inr by ↦ by
            ] in
            let unsent : IsUnsent run j it.release =
            pending_unsent it.release moment j it.there it.undone (omega (arith, inside)) ended in
            let starts : StartsInTime run j = stands.starts j inside in (
              j,
              inside,
              omega (
                arith,
                starts.starts.then,
                starts.starts.least it.release unsent,
                it.queued,
                before-ended j moment ended,
              ),
              first.holds,
            )
        | inr none ↦
            let ended : (i : ℕ) → i < length run.sends → end_at run i ≤ moment =
            λ i below. elim (cases_lt moment (end_at run i)) [
              | inl later ↦ absurd (none i below later)
              | inr by ↦ by
            ] in
            let unsent : IsUnsent run (length run.sends) it.release =
            pending_unsent it.release moment (length run.sends) it.there it.undone (omega arith) ended in
            absurd (omega (
              arith,
              stands.no_further it.release unsent,
              it.queued,
              before-ended (length run.sends) moment ended,
              before,
            ))
      ]
    where
      before-ended : (j moment : ℕ) → ((i : ℕ) → i < j → end_at run i ≤ moment) → end_before run j ≤ moment
      before-ended zero moment ended = omega arith
      before-ended (suc j) moment ended = ended j (omega arith)

  -- no lower frame starts while something is pending
  pub none_lower : (place j : ℕ) → j < length run.sends → Pending run place (send_at run j).start
      → (carried_by run j).frame ≤ place
  none_lower place j inside it =
      let unsent : IsUnsent run j it.release =
      pending_unsent it.release (send_at run j).start j it.there it.undone (omega (arith, inside))
      (λ i below. sends_apart i j below inside) in
      elim (cases_lt (release_at run it.release).frame (carried_by run j).frame) [
        | inl higher ↦ absurd (omega (arith, stands.highest j it.release inside unsent higher, it.queued))
        | inr not_higher ↦ omega (arith, it.level)
      ]
