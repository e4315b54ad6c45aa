use Rattle.std.proofs.Common.{sym}
use Rattle.canpack_top.specs.Meaning.{seen}
use Rattle.canpack_top.proofs.Said.{said_part, said_whole}
use Rattle.canpack_top.proofs.top.status_of.Goals as goal

pub returns-in-Ok-clause-answered : goal.returns-in-Ok-clause-answered
returns-in-Ok-clause-answered g c = λ answered.
    said_whole _ _ _ _ _ (seen c.in-Ok.answer) c.in-Some.command (sym c.in-Some.ensures.exact) c.in-Ok.ensures.ends
    _ _ _ c.number.ensures c.deref.ensures.value c.say-in-Ok.ensures.other c.say-in-Ok.ensures.said answered

pub returns-in-Ok-clause-part_said : goal.returns-in-Ok-clause-part_said
returns-in-Ok-clause-part_said g c = λ failed.
    said_part _ _ _ _ _ (seen c.in-Ok.answer) c.in-Some.command (sym c.in-Some.ensures.exact) c.in-Ok.ensures.ends
    _ c.deref.ensures.value (c.say-in-Ok.ensures.part failed)
