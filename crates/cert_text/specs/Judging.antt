-- What a feed does line by line.
use Rattle.std.specs.Prelude.{◌≡◌, ◌≢◌, ◌⊎◌, ⊤, ◌+◌, ◌<◌, ℕ, List, [], ◌∷◌, ◌++◌, length, Option, None, Some, Result, Ok, Err}
use Rattle.std.specs.List.{AllByRecursion}
use Rattle.pack_base.specs.Outside.{Files}
use Rattle.cert_text.specs.declared.event.Event.{Event}
use Rattle.cert_text.specs.declared.event.Event.TheVariants as event
use Rattle.cert_text.specs.declared.fault.FeedFault.{FeedFault}
use Rattle.cert_text.specs.declared.feed.CertFeed.{CertFeed}
use Rattle.cert_text.specs.declared.hearing.Hearing.{Hearing}
use Rattle.cert_text.specs.declared.line.Line.{Line}
use Rattle.cert_text.specs.declared.line.Line.TheVariants as line
use Rattle.cert_text.specs.declared.symbol.Symbol.{Symbol}
use Rattle.cert_text.specs.Lines.{LineInRange, text_of}
use Rattle.cert_text.specs.CertText.{CertRefusal, bad_line, ended_lines, unfinished}
use Rattle.cert_text.specs.Grammar.{run}
use Rattle.cert_text.specs.Reading.{refusal}
use Rattle.cert_text.specs.Heard.{Heard, collect, hear, heard_by, silent}
use Rattle.cert_text.specs.Depths.{IsWithin}
use Rattle.cert_text.specs.Sources.{Ends, text_refusal}

-- a feed read more and judged these lines
pub record Judges (old now : CertFeed) (more : List ℕ) (lines : List Line) : Type 0 where
  pub text : old.source.left ++ more ≡ text_of lines ++ now.source.left
  pub in_range : AllByRecursion LineInRange lines
  pub stands : run old.position lines ≡ Some now.position
  pub count : now.source.count ≡ old.source.count + length more
  pub number : now.lines ≡ old.lines + length lines
  pub within : IsWithin now.source now.lines

-- a feed judged this line where it stood in what was left
pub record JudgesHere (old now : CertFeed) (line : Line) : Type 0 where
  pub judges : Judges old now [] (line ∷ [])
  pub few : length now.source.left < 65536

-- a feed judged the line of a fail leaf with evidence, and heard it, or nothing
abbrev pub BeginsHearing : CertFeed → CertFeed → Heard → Type 0
BeginsHearing old now h =
    ((now ≡ old) × (h ≡ silent))
    ⊎ ((n : ℕ) × JudgesHere old now (line.FailLine n) × ((h, None) ≡ hear silent (line.FailLine n)))

-- a feed judged one line, and heard it
pub record HearsLine (old now : CertFeed) (more : List ℕ) (heard next : Heard)
    (e : Option Event) : Type 0 where
  pub line : Line
  pub judges : Judges old now more (line ∷ [])
  pub hears : (next, e) ≡ hear heard line
  pub few : length now.source.left < 65536

-- the first refusal of this text is this one, where these pieces are to come and the next line has this
-- number
abbrev pub RefusedFrom : ℕ → List Symbol → List ℕ → CertRefusal → Type 0
RefusedFrom n to_come text why =
    to_come ≢ [] → refusal n to_come (ended_lines text) (unfinished text) ≡ Some why

-- a feed found that the next line can't stand or is cut, and the file ends there
abbrev pub RefusesLine : Files → List ℕ → CertFeed → List ℕ → Option CertRefusal → Type 0
RefusesLine files name old more None = ⊤
RefusesLine files name old more (Some why) =
    RefusedFrom (old.lines + 1) old.position (old.source.left ++ more) why
    × Ends files name old.source.count more

-- a line that can't stand was passed over with all that follows it
abbrev pub RefusesBad : Files → List ℕ → ℕ → ℕ → List ℕ → Option CertRefusal → Type 0
RefusesBad files name at lines more None = ⊤
RefusesBad files name at lines more (Some why) = (why ≡ bad_line (lines + 1)) × Ends files name at more

-- what judging one line answers
abbrev pub OneLine : Files → List ℕ → CertFeed → CertFeed → List ℕ → Heard
    → Result (Hearing × Option Event) FeedFault → Type 0
OneLine files name old now more heard (Ok r) = HearsLine old now more heard (heard_by r.0) r.1
OneLine files name old now more heard (Err fault) = RefusesLine files name old more (text_refusal fault)

-- a feed judged lines, of which the last ends the first event
pub record HearsEvent (old now : CertFeed) (more : List ℕ) (e : Event) : Type 0 where
  pub before : List Line
  pub last : Line
  pub judges : Judges old now more (before ++ last ∷ [])
  pub none : collect silent before ≡ []
  pub hears : (rest : List Line) → collect silent ((before ++ last ∷ []) ++ rest) ≡ e ∷ collect silent rest
  pub few : length now.source.left < 65536

-- a feed judged lines without an event, and what follows them is refused
pub record RefusesText (old : CertFeed) (text : List ℕ) (why : CertRefusal) : Type 0 where
  pub lines : List Line
  pub to_come : List Symbol
  pub rest : List ℕ
  pub is : text ≡ text_of lines ++ rest
  pub in_range : AllByRecursion LineInRange lines
  pub stands : run old.position lines ≡ Some to_come
  pub none : collect silent lines ≡ []
  pub refused : RefusedFrom (old.lines + length lines + 1) to_come rest why

-- a feed found a line that can't stand or is cut, and the file ends there
abbrev pub RefusesLines : Files → List ℕ → CertFeed → List ℕ → Option CertRefusal → Type 0
RefusesLines files name old more None = ⊤
RefusesLines files name old more (Some why) =
    RefusesText old (old.source.left ++ more) why × Ends files name old.source.count more

-- what judging lines up to the next event answers
abbrev pub OneEvent : Files → List ℕ → CertFeed → CertFeed → List ℕ → Result Event FeedFault → Type 0
OneEvent files name old now more (Ok e) = HearsEvent old now more e
OneEvent files name old now more (Err fault) = RefusesLines files name old more (text_refusal fault)

-- nothing follows the last line, and the file ends there
pub record IsWhole (files : Files) (name : List ℕ) (old now : CertFeed) (more : List ℕ) : Type 0 where
  pub nothing : old.source.left ++ more ≡ []
  pub left : now.source.left ≡ []
  pub ends : Ends files name old.source.count more
  pub count : now.source.count ≡ old.source.count + length more
  pub position : now.position ≡ old.position
  pub lines : now.lines ≡ old.lines

-- bytes follow the last line, and the file ends with them
abbrev pub RefusesRest : Files → List ℕ → CertFeed → List ℕ → Option CertRefusal → Type 0
RefusesRest files name old more None = ⊤
RefusesRest files name old more (Some why) =
    (why ≡ bad_line (old.lines + 1))
    × (0 < length (old.source.left ++ more))
    × Ends files name old.source.count more

-- what looking for the end answers
abbrev pub Finishes : Files → List ℕ → CertFeed → CertFeed → List ℕ → Result Event FeedFault → Type 0
Finishes files name old now more (Ok e) = (e ≡ event.Finish) × IsWhole files name old now more
Finishes files name old now more (Err fault) = RefusesRest files name old more (text_refusal fault)
