-- A certificate that is read piece by piece: what a feed gave so far and a reader of events took, and what is
-- answered.
use Rattle.std.proofs.Common.{◌≡◌, ◌<◌, ◌+◌, ◌^◌, ℕ, Bool, true, false, List, [], ◌∷◌, ◌++◌, length, map, Some, None, Ok, Err, Result, refl, sym, ap, subst, ◌∙◌, arith, length-append, true≢false}
use Rattle.std.specs.Prelude.{IsSome, OnOk, IsErrOf}
use Rattle.std.proofs.lemmas.List.{map_push}
use Rattle.pack_model.specs.Problem.{Parts}
use Rattle.pack_base.specs.Counts.{Rose}
use Rattle.pack_base.specs.Outside.{Files, SameFaults, bytes_at}
use Rattle.matrix_rows.specs.declared.matrix.MatrixRow.{MatrixRow}
use Rattle.cert_text.specs.declared.event.Event.{Event}
use Rattle.cert_text.specs.declared.event.Event.TheVariants as event
use Rattle.cert_text.specs.declared.fault.FeedFault.{FeedFault}
use Rattle.cert_text.specs.declared.fault.FeedFault.TheVariants as feed_fault
use Rattle.cert_text.specs.declared.feed.CertFeed.{CertFeed}
use Rattle.cert_text.specs.CertEvents.{cert_events}
use Rattle.cert_text.specs.Depths.{is_last}
use Rattle.cert_text.specs.Given.{BeginsEvents, Feeds, Given, IsRefused, IsTextOf}
use Rattle.cert_text.specs.Parts.{CertOf, unmark_cert}
use Rattle.cert_text.specs.Reading.{cert_of_text}
use Rattle.cert_text.specs.Sources.{Ends, Reads, cause, text_refusal}
use Rattle.cert_text.specs.Trees.{Marked}
use Rattle.cert_text.proofs.OfText.{text_parts}
use Rattle.cert_text.proofs.SourceLaws.{ends_then, no_cause, reads_none, reads_then}
use Rattle.bandwidth_bound.specs.Follows.{Holds}
use Rattle.bandwidth_bound.specs.declared.verdict.Verdict.{Verdict}
use Rattle.cert_check.specs.declared.cert_walk.CertWalk.{CertWalk}
use Rattle.cert_check.specs.declared.one_pass.FeedCheck.{FeedCheck}
use Rattle.cert_check.specs.declared.one_pass.FeedCheck.TheVariants as feed
use Rattle.cert_check.specs.declared.fault.CheckFault.{CheckFault}
use Rattle.cert_check.specs.declared.fault.CheckFault.TheVariants as fault
use Rattle.cert_check.specs.Accept.{IsFound, judged_of}
use Rattle.cert_check.specs.Entries.{Entry, as_event}
use Rattle.cert_check.specs.Feed.{FeedFinds, IsFoundIn, IsOfSize, check_of_fault, check_of_feed}
use Rattle.cert_check.specs.Taken.{HasOwnParts, Taken}

-- ---- failed reads

-- what is answered where the feed refuses
abbrev pub refusal_is : FeedFault → Result Verdict FeedCheck
refusal_is why = Err (check_of_feed why)

-- and where what was read is denied
abbrev pub denial_is : CheckFault → Result Verdict FeedCheck
denial_is why = Err (check_of_fault why)

-- a failed read is told
failed_of_cause : (why : FeedFault) → cause why ≡ Some feed_fault.ReadFault
    → refusal_is why ≡ Err feed.ReadFault
failed_of_cause feed_fault.ReadFault failed = refl
failed_of_cause feed_fault.TooLarge failed = cc
failed_of_cause (feed_fault.BadLine n) failed = cc
failed_of_cause feed_fault.Cut failed = cc
failed_of_cause feed_fault.Memory failed = cc

-- where a certificate is denied, none was
never_read : (why : CheckFault) → ¬ (denial_is why ≡ Err feed.ReadFault)
never_read fault.RejectedMatrix failed = cc
never_read fault.RejectedTiming failed = cc
never_read fault.RejectedTree failed = cc
never_read fault.Memory failed = cc

pub denied_unread : (why : CheckFault) (P : Type 0) → IsErrOf (denial_is why) feed.ReadFault → P
denied_unread why P failed = absurd (never_read why failed)

-- a failed read is what is told
cause_of_failed : (why : FeedFault) → refusal_is why ≡ Err feed.ReadFault → cause why ≡ Some feed_fault.ReadFault
cause_of_failed feed_fault.ReadFault failed = refl
cause_of_failed feed_fault.TooLarge failed = absurd cc
cause_of_failed (feed_fault.BadLine n) failed = absurd cc
cause_of_failed feed_fault.Cut failed = absurd cc
cause_of_failed feed_fault.Memory failed = absurd cc

-- ---- events that a walk took

-- it took them all, without a hole
abbrev pub WalkTook : CertWalk → Parts → List MatrixRow → List Event → Type 0
WalkTook walk problem rows events = Taken walk problem rows (map as_event events)

-- one more
pub walk_more : (walk later : CertWalk) (problem : Parts) (rows : List MatrixRow) (e : Event)
    → ((rows : List MatrixRow) (entries : List Entry) → Taken walk problem rows entries
    → Taken later problem rows (entries ++ as_event e ∷ []))
    → (events : List Event) → WalkTook walk problem rows events → BeginsEvents (events ++ e ∷ [])
    → WalkTook later problem rows (events ++ e ∷ [])
walk_more walk later problem rows e takes events took begins =
    subst (Taken later problem rows) (sym (map_push as_event events e)) (takes rows (map as_event events) took)

-- ---- the loop

-- so far a feed gave these bytes and events, which were taken; where the feed ended, the bytes are a text of the
-- certificate with these events, and the file ends there
pub record TakesSoFar {F : Type 0} (files : F → Files) (r w g : F → List ℕ → ℕ) (name : List ℕ) (old now : F)
    (reader : CertFeed) (Took : List Event → Type 0) : Type 0 where
  pub bytes : List ℕ
  pub events : List Event
  pub given : Given reader bytes events
  pub taken : Took events
  pub reads : Reads files r w g name 0 old now None bytes
  pub text : reader.ended ≡ true → IsTextOf bytes events
  pub ends : reader.ended ≡ true → Ends (files old) name 0 bytes

pub none_so_far : {F : Type 0} (files : F → Files) (r w g : F → List ℕ → ℕ) (name : List ℕ) (here : F)
    (reader : CertFeed) (Took : List Event → Type 0) → Given reader [] [] → reader.ended ≡ false → Took []
    → TakesSoFar files r w g name here here reader Took
none_so_far files r w g name here reader Took given goes_on taken = record {
  bytes = [];
  events = [];
  given = given;
  taken = taken;
  reads = reads_none files r w g name 0 here (omega arith);
  text = λ e. absurd (true≢false (sym e ∙ goes_on));
  ends = λ e. absurd (true≢false (sym e ∙ goes_on));
}

-- how many turns are left at most, where so many bytes may come
abbrev pub turns_left : Bool → ℕ → ℕ
turns_left true ahead = 0
turns_left false ahead = ahead + 1

-- the last event is the end
last_is : (e : Event) → is_last (Ok e) ≡ true → e ≡ event.Finish
last_is (event.Head k) h = absurd (true≢false (sym h))
last_is (event.FrameOf f) h = absurd (true≢false (sym h))
last_is (event.LemmaOf sender value) h = absurd (true≢false (sym h))
last_is event.Main h = absurd (true≢false (sym h))
last_is (event.Node n) h = absurd (true≢false (sym h))
last_is event.BoundLeaf h = absurd (true≢false (sym h))
last_is event.OpenLeaf h = absurd (true≢false (sym h))
last_is (event.FailLeaf es) h = absurd (true≢false (sym h))
last_is event.ShardMark h = absurd (true≢false (sym h))
last_is event.JoinMark h = absurd (true≢false (sym h))
last_is event.Finish h = refl

module _ {F : Type 0} {files : F → Files} {r w g : F → List ℕ → ℕ} {name : List ℕ} {old now : F}
    {reader : CertFeed} {Took : List Event → Type 0}
    (s : TakesSoFar files r w g name old now reader Took) where
  -- one event more
  pub one_more : (next : F) (after : CertFeed) (Later : List Event → Type 0) (e : Event)
      → ((bytes : List ℕ) (events : List Event) → Given reader bytes events
      → Feeds files r w g name now next after bytes events (Ok e))
      → after.ended ≡ is_last (Ok e)
      → ((events : List Event) → Took events → BeginsEvents (events ++ e ∷ []) → Later (events ++ e ∷ []))
      → TakesSoFar files r w g name old next after Later
  one_more next after Later e answer ended takes =
      let feeds : Feeds files r w g name now next after s.bytes s.events (Ok e) =
      answer s.bytes s.events s.given in record {
        bytes = s.bytes ++ feeds.more;
        events = s.events ++ e ∷ [];
        given = feeds.answer.given;
        taken = takes s.events s.taken feeds.answer.begins;
        reads = reads_then s.reads feeds.reads (omega arith);
        text = λ is. feeds.answer.text (last_is e (sym ended ∙ is));
        ends = λ is.
            ends_then (length s.bytes) feeds.more s.reads (feeds.answer.ends (last_is e (sym ended ∙ is)))
            (omega arith);
      }

  -- a file that was read to its end
  whole : (more : List ℕ) → IsSome (files old) → Ends (files now) name (length s.bytes) more
      → s.bytes ++ more ≡ bytes_at (files old) name
  whole more told ends =
      ends_then (length s.bytes) more s.reads ends (omega arith) told [] refl (bytes_at (files old) name, refl)

  module _ (problem : Parts) (rows : List MatrixRow) (next : F) (after : CertFeed) (why : FeedFault)
      (feeds : Feeds files r w g name now next after s.bytes s.events (Err why)) where
    -- what is answered of the bytes that were read
    pub refused_some : FeedFinds problem rows (s.bytes ++ feeds.more) (Err (check_of_feed why))
    refused_some = by why feeds.answer
      where
        by : (f : FeedFault)
            → IsRefused (files now) name (length s.bytes) feeds.more (s.bytes ++ feeds.more) (text_refusal f)
            → FeedFinds problem rows (s.bytes ++ feeds.more) (Err (check_of_feed f))
        by feed_fault.ReadFault refused = tt
        by feed_fault.TooLarge refused = tt
        by (feed_fault.BadLine n) refused = refused.0
        by feed_fault.Cut refused = refused.0
        by feed_fault.Memory refused = tt

    pub refused_told : IsSome (files old)
        → FeedFinds problem rows (bytes_at (files old) name) (Err (check_of_feed why))
    refused_told told = by why feeds.answer
      where
        by : (f : FeedFault)
            → IsRefused (files now) name (length s.bytes) feeds.more (s.bytes ++ feeds.more) (text_refusal f)
            → FeedFinds problem rows (bytes_at (files old) name) (Err (check_of_feed f))
        by feed_fault.ReadFault refused = tt
        by feed_fault.TooLarge refused = tt
        by (feed_fault.BadLine n) refused = ap cert_of_text (sym (whole feeds.more told refused.1)) ∙ refused.0
        by feed_fault.Cut refused = ap cert_of_text (sym (whole feeds.more told refused.1)) ∙ refused.0
        by feed_fault.Memory refused = tt

    pub refused_size : IsSome (files old)
        → IsOfSize (bytes_at (files old) name) (Err (check_of_feed why))
    refused_size told = by why feeds.answer (reads_then s.reads feeds.reads (omega arith))
      where
        by : (f : FeedFault)
            → IsRefused (files now) name (length s.bytes) feeds.more (s.bytes ++ feeds.more) (text_refusal f)
            → Reads files r w g name 0 old next (cause f) (s.bytes ++ feeds.more)
            → IsOfSize (bytes_at (files old) name) (Err (check_of_feed f))
        by feed_fault.ReadFault refused reads = tt
        by feed_fault.TooLarge refused reads =
            let long = reads.large refl in
            let front = reads.front told [] refl (bytes_at (files old) name, refl) in
            omega (arith, long, ap length front.1, length-append (s.bytes ++ feeds.more) front.0)
        by (feed_fault.BadLine n) refused reads =
            let short = reads.within (no_cause feed_fault.TooLarge) in
            omega (arith, short, ap length (whole feeds.more told refused.1))
        by feed_fault.Cut refused reads =
            let short = reads.within (no_cause feed_fault.TooLarge) in
            omega (arith, short, ap length (whole feeds.more told refused.1))
        by feed_fault.Memory refused reads = tt

    -- a read failed where that is told
    pub refused_rose : IsErrOf (refusal_is why) feed.ReadFault → Rose (r old name) (r next name)
    refused_rose failed =
        let reads : Reads files r w g name 0 old next (cause why) (s.bytes ++ feeds.more) =
        reads_then s.reads feeds.reads (omega arith) in
        reads.rose (cause_of_failed why failed)

    -- no read failed but where it is told
    pub refused_quiet : (IsErrOf (refusal_is why) feed.ReadFault → ⊥) → SameFaults r w old next
    refused_quiet calm =
        let reads : Reads files r w g name 0 old next (cause why) (s.bytes ++ feeds.more) =
        reads_then s.reads feeds.reads (omega arith) in
        reads.quiet (λ failed. calm (failed_of_cause why failed))

  -- ---- at the end

  module _ (problem : Parts) (rows : List MatrixRow) (ended : reader.ended ≡ true)
      (answer : Result Verdict CheckFault)
      (found : (marked : CertOf Marked) → HasOwnParts (unmark_cert marked) → Took (cert_events marked)
      → IsFound problem rows (unmark_cert marked) answer)
      (holds : (marked : CertOf Marked) → HasOwnParts (unmark_cert marked) → Took (cert_events marked)
      → OnOk answer (Holds (judged_of problem rows (unmark_cert marked)))) where
    -- the bytes are those of the file
    file_is : IsSome (files old) → s.bytes ≡ bytes_at (files old) name
    file_is told = s.ends ended told [] refl (bytes_at (files old) name, refl)

    -- what was found of the certificate
    found_in : IsFoundIn problem rows s.bytes answer
    found_in =
        let t : IsTextOf s.bytes s.events = s.text ended in
        let parts : HasOwnParts (unmark_cert t.marked) = text_parts s.bytes (unmark_cert t.marked) t.text in
        let taken : Took (cert_events t.marked) = subst Took (sym t.said) s.taken in record {
          cert = unmark_cert t.marked;
          text = t.found;
          found = found t.marked parts taken;
          holds = holds t.marked parts taken;
        }

    short : IsSome (files old) → length (bytes_at (files old) name) < 2 ^ 63
    short told =
        let within = s.reads.within (no_cause feed_fault.TooLarge) in
        omega (arith, within, ap length (file_is told))

    -- the answer of bytes
    finds : (bytes : List ℕ) → IsFoundIn problem rows bytes answer
        → ((shown : Verdict) → answer ≡ Ok shown → FeedFinds problem rows bytes (Ok shown))
        × ((why : CheckFault) → answer ≡ Err why → FeedFinds problem rows bytes (Err (check_of_fault why)))
    finds bytes is = (
      λ shown e. subst (IsFoundIn problem rows bytes) e is,
      λ why e. by why (subst (IsFoundIn problem rows bytes) e is),
    )
      where
        by : (why : CheckFault) → IsFoundIn problem rows bytes (Err why)
            → FeedFinds problem rows bytes (Err (check_of_fault why))
        by fault.RejectedMatrix i = i
        by fault.RejectedTiming i = i
        by fault.RejectedTree i = i
        by fault.Memory i = tt

    sizes : IsSome (files old)
        → ((shown : Verdict) → IsOfSize (bytes_at (files old) name) (Ok shown))
        × ((why : CheckFault) → IsOfSize (bytes_at (files old) name) (Err (check_of_fault why)))
    sizes told = (λ shown. short told, by)
      where
        by : (why : CheckFault) → IsOfSize (bytes_at (files old) name) (Err (check_of_fault why))
        by fault.RejectedMatrix = short told
        by fault.RejectedTiming = short told
        by fault.RejectedTree = short told
        by fault.Memory = tt

    pub shown_some : (shown : Verdict) → answer ≡ Ok shown → FeedFinds problem rows s.bytes (Ok shown)
    shown_some shown e = (finds s.bytes found_in).0 shown e

    pub shown_told : (shown : Verdict) → answer ≡ Ok shown → IsSome (files old)
        → FeedFinds problem rows (bytes_at (files old) name) (Ok shown)
    shown_told shown e told =
        subst (λ b. FeedFinds problem rows b (Ok shown)) (file_is told) (shown_some shown e)

    pub shown_size : (shown : Verdict) → IsSome (files old)
        → IsOfSize (bytes_at (files old) name) (Ok shown)
    shown_size shown told = (sizes told).0 shown

    pub denied_some : (why : CheckFault) → answer ≡ Err why
        → FeedFinds problem rows s.bytes (Err (check_of_fault why))
    denied_some why e = (finds s.bytes found_in).1 why e

    pub denied_told : (why : CheckFault) → answer ≡ Err why → IsSome (files old)
        → FeedFinds problem rows (bytes_at (files old) name) (Err (check_of_fault why))
    denied_told why e told =
        subst (λ b. FeedFinds problem rows b (Err (check_of_fault why))) (file_is told) (denied_some why e)

    pub denied_size : (why : CheckFault) → IsSome (files old)
        → IsOfSize (bytes_at (files old) name) (Err (check_of_fault why))
    denied_size why told = (sizes told).1 why
