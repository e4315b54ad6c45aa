use Rattle.std.proofs.Common.{List, [], ◌∷◌, ◌++◌}
use Rattle.pack_model.specs.Problem.{Parts}
use Rattle.matrix_rows.specs.declared.matrix.MatrixRow.{MatrixRow}
use Rattle.cert_text.specs.declared.event.Event.{Event}
use Rattle.cert_check.specs.declared.cert_walk.CertWalk.{CertWalk}
use Rattle.cert_check.specs.Entries.{Entry, as_event}
use Rattle.cert_check.specs.Taken.{HasTaken, Taken}
use Rattle.cert_check.proofs.tests.tell.Goals as goal

-- one event more
taken_more : {problem : Parts} {before after : CertWalk} {event : Event} → HasTaken before problem
    → ((rows : List MatrixRow) (entries : List Entry) → Taken before problem rows entries
    → Taken after problem rows (entries ++ as_event event ∷ [])) → HasTaken after problem
taken_more {event = event} old takes = (old.0, old.1 ++ as_event event ∷ [], takes old.0 old.1 old.2)

pub loop-event-preserved : goal.loop-event-preserved
loop-event-preserved c = taken_more c.loop-event.invariant c.take.ensures.taken
