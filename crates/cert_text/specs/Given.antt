-- What a feed of a certificate's text was given, and what it answers.
use Rattle.std.specs.Prelude.{◌≡◌, ⊤, ℕ, List, [], ◌∷◌, ◌++◌, length, Option, None, Some, Result, Ok, Err}
use Rattle.std.specs.List.{AllByRecursion}
use Rattle.pack_base.specs.Outside.{Files}
use Rattle.cert_text.specs.declared.event.Event.{Event}
use Rattle.cert_text.specs.declared.event.Event.TheVariants as event
use Rattle.cert_text.specs.declared.fault.FeedFault.{FeedFault}
use Rattle.cert_text.specs.declared.feed.CertFeed.{CertFeed}
use Rattle.cert_text.specs.Trees.{Marked}
use Rattle.cert_text.specs.Parts.{CertOf, unmark_cert}
use Rattle.cert_text.specs.CertEvents.{cert_events}
use Rattle.cert_text.specs.Lines.{LineInRange, lines_of, text_of}
use Rattle.cert_text.specs.CertText.{CertRefusal, CertText, InRange}
use Rattle.cert_text.specs.Grammar.{run, start}
use Rattle.cert_text.specs.Reading.{cert_of_text}
use Rattle.cert_text.specs.Sources.{Ends, Reads, broke, text_refusal}

-- these bytes were read from the start, and these are the events of the lines judged so far
pub record Given (feed : CertFeed) (bytes : List ℕ) (events : List Event) : Type 0 where
  pub judged : bytes ≡ text_of (lines_of events) ++ feed.source.left
  pub in_range : AllByRecursion LineInRange (lines_of events)
  pub stands : run start (lines_of events) ≡ Some feed.position
  pub count : feed.source.count ≡ length bytes
  pub lines : feed.lines ≡ length (lines_of events)

-- the events of some certificate in range, with its marks, begin with these
pub record BeginsEvents (events : List Event) : Type 0 where
  pub marked : CertOf Marked
  pub rest : List Event
  pub in_range : InRange marked
  pub begins : cert_events marked ≡ events ++ rest

-- the bytes are a text of the certificate whose events, with its marks, these are
pub record IsTextOf (bytes : List ℕ) (events : List Event) : Type 0 where
  pub marked : CertOf Marked
  pub said : cert_events marked ≡ events
  pub text : CertText bytes (unmark_cert marked)
  pub found : cert_of_text bytes ≡ Ok (unmark_cert marked)

-- these bytes are refused for this cause, if there is one, and the file ends there
abbrev pub IsRefused : Files → List ℕ → ℕ → List ℕ → List ℕ → Option CertRefusal → Type 0
IsRefused files name at more longer None = ⊤
IsRefused files name at more longer (Some why) = (cert_of_text longer ≡ Err why) × Ends files name at more

-- an event is the next one of the text; the last one comes where the file ends with the text of a certificate
pub record IsNext (files : Files) (name : List ℕ) (now : CertFeed) (bytes more : List ℕ)
    (events : List Event) (e : Event) : Type 0 where
  pub given : Given now (bytes ++ more) (events ++ e ∷ [])
  pub begins : BeginsEvents (events ++ e ∷ [])
  pub ends : e ≡ event.Finish → Ends files name (length bytes) more
  pub text : e ≡ event.Finish → IsTextOf (bytes ++ more) (events ++ e ∷ [])

-- what a feed answers, that was given these bytes and events
abbrev pub IsAnswerOf : Files → List ℕ → CertFeed → List ℕ → List ℕ → List Event → Result Event FeedFault
    → Type 0
IsAnswerOf files name now bytes more events (Ok e) = IsNext files name now bytes more events e
IsAnswerOf files name now bytes more events (Err fault) =
    IsRefused files name (length bytes) more (bytes ++ more) (text_refusal fault)

-- a feed that was given these bytes and events read more, and answered what follows
pub record Feeds {F : Type 0} (files : F → Files) (read_faults write_faults given : F → List ℕ → ℕ)
    (name : List ℕ) (old now : F) (feed : CertFeed) (bytes : List ℕ) (events : List Event)
    (result : Result Event FeedFault) : Type 0 where
  pub more : List ℕ
  pub reads : Reads files read_faults write_faults given name (length bytes) old now (broke result) more
  pub answer : IsAnswerOf (files old) name feed bytes more events result

-- a feed was given some bytes and events
abbrev pub HasGiven : CertFeed → Type 0
HasGiven feed = (bytes : List ℕ) × (events : List Event) × Given feed bytes events
