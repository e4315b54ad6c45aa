-- The lines of certificates: which there are, in which range, and with which bytes.
use Rattle.std.specs.Prelude.{⊤, ◌<◌, ◌≤◌, ◌^◌, ℕ, List, [], ◌∷◌, ◌++◌, length, map, codes, decimal}
use Rattle.std.specs.List.{flat_map, AllByRecursion, join_with_byte}
use Rattle.response_test.specs.declared.evidence.Evidence.{Evidence}
use Rattle.response_test.specs.declared.evidence.Evidence.TheVariants as evidence
use Rattle.cert_text.specs.declared.parts.Kind.{Kind}
use Rattle.cert_text.specs.declared.parts.Kind.TheVariants.{KindPlaced, KindTimed, KindBetween, KindBest, KindNoSolution}
use Rattle.cert_text.specs.declared.event.Event.{Event}
use Rattle.cert_text.specs.declared.event.Event.TheVariants as event
use Rattle.cert_text.specs.declared.line.Line.{Line}
use Rattle.cert_text.specs.declared.line.Line.TheVariants as line
use Rattle.cert_text.specs.Trees.{Marked}
use Rattle.cert_text.specs.Parts.{CertOf}
use Rattle.cert_text.specs.CertEvents.{cert_events}

-- the line of a piece of evidence
abbrev pub against : ℕ × Evidence → Line
against x = line.AgainstLine x.0 x.1

-- the lines of an event
abbrev pub event_lines : Event → List Line
event_lines (event.Head k) = line.FirstLine ∷ line.KindLine k ∷ []
event_lines (event.FrameOf f) = line.FrameWords f ∷ []
event_lines (event.LemmaOf sender value) = line.LemmaWords sender value ∷ []
event_lines event.Main = line.MainLine ∷ []
event_lines (event.Node n) = line.InnerLine n ∷ []
event_lines event.BoundLeaf = line.BoundLine ∷ []
event_lines event.OpenLeaf = line.OpenLine ∷ []
event_lines (event.FailLeaf es) = line.FailLine (length es) ∷ map against es
event_lines event.ShardMark = line.ShardLine ∷ []
event_lines event.JoinMark = line.JoinLine ∷ []
event_lines event.Finish = line.EndLine ∷ []

-- the lines of events
abbrev pub lines_of : List Event → List Line
lines_of es = flat_map event_lines es

-- the lines of a certificate
abbrev pub cert_lines : CertOf Marked → List Line
cert_lines c = lines_of (cert_events c)

-- numbers below 2 ^ 64
abbrev pub AreNumbers : List ℕ → Type 0
AreNumbers ns = AllByRecursion (λ n. n < 2 ^ 64) ns

-- the numbers of evidence are in range
abbrev pub EvidenceInRange : Evidence → Type 0
EvidenceInRange evidence.Over = ⊤
EvidenceInRange (evidence.Long b) = (1 ≤ length b) × AreNumbers b
EvidenceInRange (evidence.Late q b w) =
    (q < 2 ^ 64) × (1 ≤ length b) × AreNumbers b × (1 ≤ length w) × AreNumbers w

-- the numbers of a line are in range
abbrev pub LineInRange : Line → Type 0
LineInRange line.FirstLine = ⊤
LineInRange (line.KindLine k) = ⊤
LineInRange (line.FrameWords f) =
    (f.busy < 2 ^ 64) × (1 ≤ length f.queue) × (length f.queue ≤ 256) × AreNumbers f.queue
LineInRange (line.LemmaWords sender value) = (sender ≤ 255) × (value < 2 ^ 128)
LineInRange line.MainLine = ⊤
LineInRange (line.InnerLine n) = (1 ≤ n) × (n ≤ 128)
LineInRange line.BoundLine = ⊤
LineInRange line.OpenLine = ⊤
LineInRange (line.FailLine n) = n ≤ 128
LineInRange (line.AgainstLine label e) = (label ≤ 127) × EvidenceInRange e
LineInRange line.ShardLine = ⊤
LineInRange line.JoinLine = ⊤
LineInRange line.EndLine = ⊤

-- the name of a kind
abbrev pub kind_name : Kind → List ℕ
kind_name KindPlaced = codes "placed"
kind_name KindTimed = codes "timed"
kind_name KindBetween = codes "open"
kind_name KindBest = codes "best"
kind_name KindNoSolution = codes "none"

-- the words of a line of evidence
abbrev pub evidence_words : ℕ → Evidence → List (List ℕ)
evidence_words label evidence.Over = codes "over" ∷ map decimal (label ∷ [])
evidence_words label (evidence.Long b) = codes "long" ∷ map decimal (label ∷ b)
evidence_words label (evidence.Late q b w) =
    codes "late" ∷ (map decimal (label ∷ q ∷ b) ++ (codes "/" ∷ map decimal w))

-- the words of a line
unfoldable pub line_words : Line → List (List ℕ)
line_words line.FirstLine = codes "canpack" ∷ codes "certificate" ∷ codes "1" ∷ []
line_words (line.KindLine k) = codes "kind" ∷ kind_name k ∷ []
line_words (line.FrameWords f) = codes "frame" ∷ map decimal (f.busy ∷ f.queue)
line_words (line.LemmaWords sender value) = codes "lemma" ∷ map decimal (sender ∷ value ∷ [])
line_words line.MainLine = codes "main" ∷ []
line_words (line.InnerLine n) = codes "i" ∷ map decimal (n ∷ [])
line_words line.BoundLine = codes "b" ∷ []
line_words line.OpenLine = codes "o" ∷ []
line_words (line.FailLine n) = codes "f" ∷ map decimal (n ∷ [])
line_words (line.AgainstLine label e) = evidence_words label e
line_words line.ShardLine = codes "shard" ∷ []
line_words line.JoinLine = codes "join" ∷ []
line_words line.EndLine = codes "end" ∷ []

-- the bytes of a line: its words, with one space between two
abbrev pub line_text : Line → List ℕ
line_text l = join_with_byte 32 (line_words l)

-- bytes with LF
abbrev pub ended : List ℕ → List ℕ
ended bytes = bytes ++ 10 ∷ []

-- the bytes of lines
abbrev pub text_of : List Line → List ℕ
text_of lines = flat_map (λ l. ended (line_text l)) lines
