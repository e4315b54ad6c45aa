-- What a walk over a certificate is told.
use Rattle.std.specs.Prelude.{List, [], ◌∷◌, ◌++◌}
use Rattle.cert_text.specs.declared.event.Event.{Event}
use Rattle.cert_text.specs.CertEvents.{tree_events}
use Rattle.cert_text.specs.Trees.{Marked}

-- an event, or a hole: one entry in the place of all events of a tree
pub data Entry : Type 0 where
  as_event : Event → Entry
  as_hole : Marked → Entry

-- the events, with those of its tree in the place of each hole
abbrev pub in_full : List Entry → List Event
in_full [] = []
in_full (as_event event ∷ entries) = event ∷ in_full entries
in_full (as_hole tree ∷ entries) = tree_events tree ++ in_full entries
