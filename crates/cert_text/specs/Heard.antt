-- The events of lines: a fail leaf is heard when its last line of evidence was.
use Rattle.std.specs.Prelude.{ℕ, zero, suc, List, [], ◌∷◌, ◌++◌, Option, Some, None}
use Rattle.response_test.specs.declared.evidence.Evidence.{Evidence}
use Rattle.cert_text.specs.declared.event.Event.{Event}
use Rattle.cert_text.specs.declared.event.Event.TheVariants as event
use Rattle.cert_text.specs.declared.hearing.Hearing.{Hearing}
use Rattle.cert_text.specs.declared.line.Line.{Line}
use Rattle.cert_text.specs.declared.line.Line.TheVariants as line
use Rattle.cert_text.specs.Making.{Made, make}

-- the lines of evidence that are lacking after the next, and the pieces of evidence heard
abbrev pub Heard : Type 0
Heard = ℕ × List (ℕ × Evidence)

-- no evidence is lacking
abbrev pub silent : Heard
silent = (zero, [])

-- what is heard after one more line, and the event that it ends
abbrev pub hear : Heard → Line → Heard × Option Event
hear h line.FirstLine = (silent, None)
hear h (line.KindLine k) = (silent, Some (event.Head k))
hear h (line.FrameWords f) = (silent, Some (event.FrameOf f))
hear h (line.LemmaWords sender value) = (silent, Some (event.LemmaOf sender value))
hear h line.MainLine = (silent, Some event.Main)
hear h (line.InnerLine n) = (silent, Some (event.Node n))
hear h line.BoundLine = (silent, Some event.BoundLeaf)
hear h line.OpenLine = (silent, Some event.OpenLeaf)
hear h (line.FailLine zero) = (silent, Some (event.FailLeaf []))
hear h (line.FailLine (suc n)) = ((n, []), None)
hear (zero, seen) (line.AgainstLine label e) = (silent, Some (event.FailLeaf (seen ++ (label, e) ∷ [])))
hear (suc n, seen) (line.AgainstLine label e) = ((n, seen ++ (label, e) ∷ []), None)
hear h line.ShardLine = (silent, Some event.ShardMark)
hear h line.JoinLine = (silent, Some event.JoinMark)
hear h line.EndLine = (silent, Some event.Finish)

-- an event, if there is one, and then these
abbrev pub onto_event : Option Event → List Event → List Event
onto_event None es = es
onto_event (Some e) es = e ∷ es

-- the events of lines
unfoldable pub collect : Heard → List Line → List Event
collect h [] = []
collect h (l ∷ ls) = onto_event (hear h l).1 (collect (hear h l).0 ls)

-- what the code has heard
abbrev pub heard_by : Hearing → Heard
heard_by h = (h.lacking, h.seen.items)

-- with an event, if there is one
abbrev pub made_onto : Made → Option Event → Made
made_onto m None = m
made_onto m (Some e) = make m e
