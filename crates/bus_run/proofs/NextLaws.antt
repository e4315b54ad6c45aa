-- Laws of the table of first unsent releases.
use Rattle.std.proofs.Common.{◌≡◌, ℕ, ◌+◌, ◌<◌, ◌≤◌, inl, inr, min, max, Option, Some, None, MatchOption, List, length, get_or, slice_index, slice_set, set, get_or-set_same, get_or-set_other, refl, sym, ap, subst, ◌∙◌, arith, add-one}
use Rattle.std.proofs.lemmas.Bool.{cases_lt, cases_eq}
use Rattle.bus_run.specs.Run.{Course, release_at, send_at, carried_by, end_at, end_before, IsUnsent}
use Rattle.bus_run.specs.Rules.{TakesFirst, StartsInTime, IsHighest, IsInOrder, NoFurther, ReleasesStand}
use Rattle.bus_run.specs.declared.run.BusFrame.{BusFrame}
use Rattle.bus_run.specs.Frames.{AreBusFrames}
use Rattle.bus_run.specs.Tables.{IsFirstFrom, HasNext, HaveNext, IsLeastBelow, NoneIn, QueuedAfter, FramesBelow}

-- one more frame that has none
pub least_skip : (run : Course) (table : List ℕ) (frame : ℕ) (least : Option ℕ)
    → MatchOption least (NoneIn run table frame) (λ l. IsLeastBelow run table frame l)
    → length run.releases ≤ slice_index table frame
    → MatchOption least (NoneIn run table (frame + 1)) (λ l. IsLeastBelow run table (frame + 1) l)
least_skip run table frame None none past = λ other below. elim (cases_lt other frame) [
  | inl before ↦ none other before
  | inr last ↦
      let is : slice_index table other ≡ slice_index table frame =
      ap (λ n. slice_index table n) (let e : other ≡ frame = omega (arith, below) in e) in
      omega arith
]
least_skip run table frame (Some l) it past = record {
  frame = it.frame;
  inside = omega (arith, it.inside);
  there = it.there;
  reached = it.reached;
  lowest = λ other below there. elim (cases_lt other frame) [
    | inl before ↦ it.lowest other before there
    | inr last ↦
        let is : slice_index table other ≡ slice_index table frame =
        ap (λ n. slice_index table n) (let e : other ≡ frame = omega (arith, below) in e) in
        absurd (omega (arith, there))
  ];
}

-- one more frame that has one
pub least_with : (run : Course) (table : List ℕ) (frame : ℕ) (least : Option ℕ) (now : ℕ)
    → MatchOption least (NoneIn run table frame) (λ l. IsLeastBelow run table frame l)
    → slice_index table frame < length run.releases
    → MatchOption least (now ≡ (release_at run (slice_index table frame)).queued)
    (λ l. now ≡ min l (release_at run (slice_index table frame)).queued)
    → IsLeastBelow run table (frame + 1) now
least_with run table frame None now none there is = record {
  frame = frame;
  inside = omega arith;
  there = there;
  reached = is;
  lowest = λ other below there'. elim (cases_lt other frame) [
    | inl before ↦ absurd (omega (arith, none other before, there'))
    | inr last ↦
        let e : other ≡ frame = omega (arith, below) in
        omega (arith, ap (λ n. (release_at run (slice_index table n)).queued) e)
  ];
}
least_with run table frame (Some l) now it there is =
    let lowest' : (other : ℕ) → other < frame + 1 → slice_index table other < length run.releases
    → now ≤ (release_at run (slice_index table other)).queued =
    λ other below there'. elim (cases_lt other frame) [
      | inl before ↦ omega (arith, it.lowest other before there')
      | inr last ↦
          let e : other ≡ frame = omega (arith, below) in
          omega (arith, ap (λ n. (release_at run (slice_index table n)).queued) e)
    ] in
    elim (cases_lt l (release_at run (slice_index table frame)).queued) [
      | inl less ↦ record {
        frame = it.frame;
        inside = omega (arith, it.inside);
        there = it.there;
        reached = omega (arith, it.reached);
        lowest = lowest';
      }
      | inr not_less ↦ record {
        frame = frame;
        inside = omega arith;
        there = there;
        reached = omega arith;
        lowest = lowest';
      }
    ]

-- where releases of one frame are queued in order, a later one is queued no earlier
later_queued : (run : Course) (earlier later : ℕ)
    → ((release : ℕ) → release < length run.releases → IsInOrder run release)
    → earlier ≤ later → later < length run.releases
    → (release_at run earlier).frame ≡ (release_at run later).frame
    → (release_at run earlier).queued ≤ (release_at run later).queued
later_queued run earlier later order le there same =
    elim (cases_lt earlier later) [
      | inl before ↦ order later there earlier before same
      | inr last ↦ omega (
        arith,
        ap (λ n. (release_at run n).queued) (let e : earlier ≡ later =
            omega arith in e),
      )
    ]

module _ (run : Course) (number : ℕ) (table : List ℕ) (below : FramesBelow run)
    (have : HaveNext run number table) where
  -- a send takes the first unsent release exactly where the table has it
  pub takes_by_next : (send_at run number).release < length run.releases
      → slice_index table (carried_by run number).frame ≡ (send_at run number).release → TakesFirst run number
  takes_by_next there is =
      let it : HasNext run number (carried_by run number).frame
      (slice_index table (carried_by run number).frame) =
      have (carried_by run number).frame (below (send_at run number).release there) in
      record {
        unsent = it.unsent (send_at run number).release there refl (omega arith);
        first = λ release unsent same. omega (arith, it.first release unsent same);
      }

  -- and the other way round
  pub next_by_takes : TakesFirst run number
      → slice_index table (carried_by run number).frame ≡ (send_at run number).release
  next_by_takes takes =
      let frame : ℕ = (carried_by run number).frame in
      let there : (send_at run number).release < length run.releases = takes.unsent.there in
      let it : HasNext run number frame (slice_index table frame) =
      have frame (below (send_at run number).release there) in
      let le : slice_index table frame ≤ (send_at run number).release =
      it.first (send_at run number).release takes.unsent refl in
      let there' : slice_index table frame < length run.releases = omega arith in
      let unsent : IsUnsent run number (slice_index table frame) =
      it.unsent (slice_index table frame) there' (it.same there') (omega arith) in
      omega (arith, takes.first (slice_index table frame) unsent (it.same there'))

  -- the entry of a frame is unsent
  entry_unsent : (frame : ℕ) → frame < 128 → slice_index table frame < length run.releases
      → IsUnsent run number (slice_index table frame)
  entry_unsent frame inside there =
      let it : HasNext run number frame (slice_index table frame) = have frame inside in
      it.unsent (slice_index table frame) there (it.same there) (omega arith)

  -- each unsent release comes no earlier than the entry of its frame
  pub entry_first : (release : ℕ) → IsUnsent run number release
      → slice_index table (release_at run release).frame ≤ release
  entry_first release unsent =
      (have (release_at run release).frame (below release unsent.there)).first release unsent refl

  module _ (order : (release : ℕ) → release < length run.releases → IsInOrder run release) where
    -- and is queued no earlier
    pub entry_queued : (release : ℕ) → IsUnsent run number release
        → (release_at run (slice_index table (release_at run release).frame)).queued
        ≤ (release_at run release).queued
    entry_queued release unsent =
        let le : slice_index table (release_at run release).frame ≤ release = entry_first release unsent in
        let there : release < length run.releases = unsent.there in
        let it : HasNext run number (release_at run release).frame
        (slice_index table (release_at run release).frame) =
        have (release_at run release).frame (below release there) in
        later_queued run (slice_index table (release_at run release).frame) release order le there
        (it.same (omega arith))

    -- the least of the table is the least of all
    pub least_of_all : (least : ℕ) → IsLeastBelow run table 128 least → (release : ℕ)
        → IsUnsent run number release
        → least ≤ (release_at run release).queued
    least_of_all least it release unsent =
        let there : release < length run.releases = unsent.there in
        omega (
          arith,
          it.lowest (release_at run release).frame (below release there)
              (omega (arith, entry_first release unsent)),
          entry_queued release unsent,
        )

    -- a send starts in time exactly where it starts at the greater of the end before and the least of the
    -- table
    pub starts_by_least : (least : ℕ) → IsLeastBelow run table 128 least
        → (send_at run number).start ≡ max (end_before run number) least
        → (send_at run number).start < run.until → StartsInTime run number
    starts_by_least least it is before = record {
      starts = record {
        release = slice_index table it.frame;
        unsent = entry_unsent it.frame it.inside it.there;
        least = λ other unsent. omega (arith, it.reached, least_of_all least it other unsent);
        then = omega (arith, it.reached);
      };
      before_end = before;
    }

    pub least_by_starts : (least : ℕ) → IsLeastBelow run table 128 least → StartsInTime run number
        → (send_at run number).start ≡ max (end_before run number) least
    least_by_starts least it starts =
        omega (
          arith,
          starts.starts.then,
          least_of_all least it starts.starts.release starts.starts.unsent,
          starts.starts.least (slice_index table it.frame) (entry_unsent it.frame it.inside it.there),
          it.reached,
        )

    pub none_starts : NoneIn run table 128 → StartsInTime run number → ⊥
    none_starts none starts =
        let release : ℕ = starts.starts.release in
        let there : release < length run.releases = starts.starts.unsent.there in
        omega (
          arith,
          none (release_at run release).frame (below release there),
          entry_first release starts.starts.unsent,
        )

    -- a send is of the highest frame exactly where the table has no higher one queued by its start
    pub highest_by_table : QueuedAfter run table (carried_by run number).frame (send_at run number).start
        → IsHighest run number
    highest_by_table after = λ release unsent higher.
        let there : release < length run.releases = unsent.there in
        omega (
          arith,
          after (release_at run release).frame higher (omega (arith, entry_first release unsent)),
          entry_queued release unsent,
        )

    pub table_by_highest : (carried_by run number).frame ≤ 128 → IsHighest run number
        → QueuedAfter run table (carried_by run number).frame (send_at run number).start
    table_by_highest few highest = λ frame higher there.
        let it : HasNext run number frame (slice_index table frame) = have frame (omega arith) in
        highest (slice_index table frame) (entry_unsent frame (omega arith) there)
        (omega (arith, it.same there))

-- one more send moves the entry of its frame to the next release of it
pub next_more : (run : Course) (number next : ℕ) (table : List ℕ) → length table ≡ 128 → FramesBelow run
    → HaveNext run number table
    → TakesFirst run number
    → IsFirstFrom run (carried_by run number).frame ((send_at run number).release + 1) next
    → HaveNext run (number + 1) (slice_set table (carried_by run number).frame next)
next_more run number next table long below have takes from = λ frame inside.
    let sent : ℕ = (send_at run number).release in
    let own : ℕ = (carried_by run number).frame in
    let own_below : own < 128 = below sent takes.unsent.there in
    let at : slice_index table own ≡ sent = next_by_takes run number table below have takes in
    let fewer : (release : ℕ) → IsUnsent run (number + 1) release → IsUnsent run number release =
    λ release unsent. record {
      there = unsent.there;
      unsent = λ earlier before. unsent.unsent earlier (omega (arith, before));
    } in
    let more : (release : ℕ) → IsUnsent run number release → (sent ≡ release → ⊥)
    → IsUnsent run (number + 1) release = λ release unsent other. record {
      there = unsent.there;
      unsent = λ earlier before carries. elim (cases_lt earlier number) [
        | inl before' ↦ unsent.unsent earlier before' carries
        | inr last ↦ other (ap (λ n. (send_at run n).release) (let e : number ≡ earlier =
            omega (arith, before) in e) ∙ carries)
      ];
    } in
    elim (cases_eq frame own) [
      | inl same ↦
          let entry : slice_index (slice_set table own next) frame ≡ next =
          ap (λ n. get_or (set table own next) n 0) same ∙ get_or-set_same table own next 0 (omega arith) in
          let it : HasNext run number own (slice_index table own) = have own own_below in
          let it' : HasNext run (number + 1) frame next = record {
            within = from.within;
            same = λ there. from.same there ∙ sym same;
            first = λ release unsent is.
                let le : slice_index table own ≤ release =
                it.first release (fewer release unsent) (is ∙ same) in
                let other : sent ≡ release → ⊥ = unsent.unsent number (omega arith) in
                elim (cases_lt release next) [
                  | inr after ↦ after
                  | inl early ↦ elim (cases_eq sent release) [
                    | inl e ↦ absurd (other e)
                    | inr differ ↦ absurd (from.none release (omega (arith, differ)) early (is ∙ same))
                  ]
                ];
            unsent = λ release there is le.
                more release (it.unsent release there (is ∙ same) (omega (arith, from.above)))
                (λ e. omega (arith, from.above, e));
          } in
          subst (HasNext run (number + 1) frame) (sym entry) it'
      | inr differ ↦
          let entry : slice_index (slice_set table own next) frame ≡ slice_index table frame =
          get_or-set_other table own frame next 0 differ in
          let it : HasNext run number frame (slice_index table frame) = have frame inside in
          let it' : HasNext run (number + 1) frame (slice_index table frame) = record {
            within = it.within;
            same = it.same;
            first = λ release unsent is. it.first release (fewer release unsent) is;
            unsent = λ release there is le.
                more release (it.unsent release there is le)
                (λ e. differ (sym is ∙ sym (ap (λ n. (release_at run n).frame) e)));
          } in
          subst (HasNext run (number + 1) frame) (sym entry) it'
    ]

-- the end before the next send is that of this one
pub end_more : (run : Course) (number : ℕ) → end_before run (number + 1) ≡ end_at run number
end_more run number = ap (end_before run) (add-one number)

-- what is left at the end
pub none_further : (run : Course) (table : List ℕ) → FramesBelow run → HaveNext run (length run.sends) table
    → NoneIn run table 128 → NoFurther run
none_further run table below have none = λ release unsent.
    let there : release < length run.releases = unsent.there in
    absurd (omega (
      arith,
      none (release_at run release).frame (below release there),
      entry_first run (length run.sends) table below have release unsent,
    ))

-- no further send starts where the least of the table comes too late
pub no_further_by_least : (run : Course) (table : List ℕ) (least : ℕ) → FramesBelow run
    → HaveNext run (length run.sends) table
    → ((release : ℕ) → release < length run.releases → IsInOrder run release)
    → IsLeastBelow run table 128 least
    → run.until ≤ max (end_before run (length run.sends)) least → NoFurther run
no_further_by_least run table least below have order it le = λ release unsent.
    omega (arith, least_of_all run (length run.sends) table below have order least it release unsent)

-- a further send starts where the least of the table comes in time
pub further_by_least : (run : Course) (table : List ℕ) (least : ℕ) → FramesBelow run
    → HaveNext run (length run.sends) table
    → IsLeastBelow run table 128 least
    → max (end_before run (length run.sends)) least < run.until → NoFurther run → ⊥
further_by_least run table least below have it less none =
    omega (
      arith,
      none (slice_index table it.frame)
          (entry_unsent run (length run.sends) table below have it.frame it.inside it.there),
      it.reached,
    )

-- the frames of releases that stand are below 128
pub frames_below : (frames : List BusFrame) (run : Course) → AreBusFrames frames → ReleasesStand frames run
    → FramesBelow run
frames_below frames run are stand = λ release there. omega (arith, (stand release there).frame_there, are.few)
